-- The visits that are left, from the place reached, give what the whole round gives.
use Prim.Native.Nat.{ℕ, ◌+◌, ◌-◌, ◌*◌, ◌/◌, ◌^◌, ◌≤◌, ◌<◌}
use mathlib.Core.Path.{◌≡◌, sym, ap, ◌∙◌}
use mathlib.Core.List.{List}
use native.Mathlib.Omega.{arith}
use lib.ListN.{get_or}
use Rattle.std.proofs.lemmas.Result.{err_from_is_err_and}
use Rattle.std.proofs.lemmas.Nat.{pow-add, shl-shr}
use Rattle.spread.specs.Visits.{column_at}
use Rattle.spread.specs.Round.{rows_with}
use Rattle.sheet.specs.declared.line.Line.{Line}
use Rattle.sheet.specs.Lines.{rows_of, Laid}
use Rattle.sheet.proofs.LinesLaws.{round-begin, round-end, column-goes, column_stops}
use Rattle.sheet.proofs.round.Goals as goal

-- the line held is that of the position's column
line-is : (ws line : List ℕ) (lines : List Line) (k p column : ℕ) (l : Line) → Laid ws lines k → column ≡ column_at k p → column < k
    → line ≡ rows_of (get_or lines column l) → line ≡ rows_with (column_at k p) 0 ws
line-is ws line lines k p column l laid e low shown = shown ∙ laid column l low ∙ ap (λ (x : ℕ). rows_with x 0 ws) e

-- the code's 2 to the k
whole : (k : ℕ) → k ≤ 12 → 4096 / 2 ^ (12 - k) ≡ 2 ^ k
whole k h =
    let sum : k + (12 - k) ≡ 12 = omega arith in
    let parts : 4096 ≡ 2 ^ k * 2 ^ (12 - k) = rw sum at (pow-add 2 k (12 - k)) in
    rw parts (shl-shr (2 ^ k) (12 - k))

pub loop-position-init : goal.loop-position-init
loop-position-init c = (omega arith, round-begin _ _ _ c.order_all-k.ensures)

pub column_at-requires : goal.column_at-requires
column_at-requires c = (omega arith, omega arith, omega (arith, whole c.order_all-k.result (omega arith)))

pub returns-in_err-at : goal.returns-in_err-at
returns-in_err-at c =
    let line = line-is c.args.weights.now c.rows.result.now _ _ _ _ _ c.lay.ensures c.column_at.ensures.0 (omega arith) c.rows.ensures in
    let p = err_from_is_err_and c.from_residual.result c.from_residual.ensures.1 in
    rw (p.1, p.2)
    (sym (sym c.loop-position.invariant.1 ∙ column_stops _ _ _ _ _ _ (omega arith) (omega (arith, whole c.order_all-k.result (omega arith))) line _ c.in_err-at.ensures.found))

pub loop-position-preserved : goal.loop-position-preserved
loop-position-preserved c =
    let line = line-is c.args.weights.now c.rows.result.now _ _ _ _ _ c.lay.ensures c.column_at.ensures.0 (omega arith) c.rows.ensures in (
      c.in_ok-at.ensures.within,
      sym (column-goes _ _ _ _ _ _ (omega arith) (omega (arith, whole c.order_all-k.result (omega arith))) line _ c.in_ok-at.ensures.found)
          ∙ c.loop-position.invariant.1,
    )

pub returns : goal.returns
returns c = sym (sym c.loop-position.invariant.1 ∙ round-end _ _ _ _ _ (omega (arith, whole c.order_all-k.result (omega arith))))
