-- The first k bytes of the step are written; each turn writes the next.
use mathlib.Core.Path.{◌≡◌, sym}
use native.Mathlib.Omega.{arith}
use Rattle.octets.proofs.CopyLaws.{copied_none, copied_more}
use Rattle.octets.proofs.slide.copy_step.Goals as goal

pub loop-k-init : goal.loop-k-init
loop-k-init c = sym (copied_none _ _ _ _)

pub loop-k-preserved : goal.loop-k-preserved
loop-k-preserved c =
    let l = c.loop-k in
    rw l.invariant (copied_more _ _ _ l.k _ (omega (arith, c.requires.0, c.loop-k-test.true)) (omega (arith, c.requires.1, c.loop-k-test.true)))

pub returns : goal.returns
returns c = let e : c.loop-k.k ≡ 32 = omega (arith, c.loop-k-test.false, c.loop-k.auto.k-end) in rw e at c.loop-k.invariant
