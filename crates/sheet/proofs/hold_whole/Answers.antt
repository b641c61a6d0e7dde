-- What is still wanted, from the place reached, gives what was wanted at first.
use mathlib.Core.Path.{◌≡◌, refl, sym, ◌∙◌}
use Prim.Native.Nat.{suc, ◌+◌}
use native.Mathlib.Numerals.{add-one}
use native.Mathlib.Omega.{arith}
use lib.ListN.{length}
use Rattle.sheet.proofs.Matching.{place_other, place_found, places-end}
use Rattle.sheet.proofs.hold_whole.Goals as goal

pub returns-then-rows-start-clause-found : goal.returns-then-rows-start-clause-found
returns-then-rows-start-clause-found c =
    sym
    (sym c.loop-i.invariant
    ∙ place_other _ _ _ c.loop-i.i (omega arith) (omega arith) (λ e. c.if-rows-start.true (e ∙ sym c.from.ensures)))

pub loop-i-preserved : goal.loop-i-preserved
loop-i-preserved c =
    let next : c.args.start + (c.loop-i.i + 1) ≡ suc (c.args.start + c.loop-i.i) = omega arith in
    rw (next, add-one c.loop-i.i)
    (sym (place_found _ _ _ c.loop-i.i (omega arith) (omega arith) (c.if-rows-start.false ∙ c.from.ensures)) ∙ c.loop-i.invariant)

pub returns-clause-found : goal.returns-clause-found
returns-clause-found c =
    let all : length c.args.line.now ≡ c.loop-i.i = omega arith in
    sym (sym c.loop-i.invariant ∙ places-end c.args.rows.now c.args.line.now (c.args.start + c.loop-i.i) c.loop-i.i c.loop-i-test.false ∙ rw all refl)
