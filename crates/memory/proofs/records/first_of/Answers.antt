-- The sum so far is the first place of the next slot; 16 bits hold it, so that a compiler can add up eight at a time.
use Prim.Native.Nat.{◌+◌, ◌<◌}
use mathlib.Core.Path.{◌≡◌, refl, ◌∙◌}
use native.Mathlib.Omega.{arith}
use Rattle.memory.specs.Names as the
use Rattle.memory.specs.Layout.{place}
use Rattle.memory.specs.Reading.{first_at}
use Rattle.memory.proofs.RunEdits.{first_next}
use Rattle.memory.proofs.records.first_of.Goals as goal

pub loop-s-init : goal.loop-s-init
unfolding first_at
loop-s-init c = (omega arith, refl)

pub loop-s-preserved : goal.loop-s-preserved
loop-s-preserved c =
    let l = c.loop-s in
    let b = c.args.state.now in
    let waiting : c.from-sum.result < 256 = omega (arith, c.from-sum.ensures, c.fits-state (place the.waiting + l.s)) in
    (omega (arith, l.invariant.0, waiting), omega (arith, l.invariant.1, c.from-sum.ensures, first_next b l.s))

pub returns : goal.returns
returns c =
    let e : c.loop-s.s ≡ c.args.slot = omega (arith, c.loop-s-test.false, c.loop-s.auto.s-end) in
    c.from.ensures ∙ rw e at c.loop-s.invariant.1
