-- Each turn adds one number; modulo 65,536 it does not matter when the remainder is taken.
use Rattle.std.proofs.Common.{◌≡◌, refl, arith}
use Rattle.soundness.specs.Notes.{sum_of}
use Rattle.soundness.proofs.SumLaws.{eight-turn}
use Rattle.soundness.proofs.sums.eight.Goals as goal

pub loop-k-init : goal.loop-k-init
unfolding sum_of
loop-k-init c = refl

pub loop-k-preserved : goal.loop-k-preserved
loop-k-preserved c = eight-turn _ _ _ _ _ c.loop-k.invariant refl

pub returns : goal.returns
returns c = let e : c.loop-k.k ≡ 8 = omega arith in rw e at c.loop-k.invariant
