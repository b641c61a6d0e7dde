-- Each turn adds one test to those before it.
use Rattle.std.proofs.Common.{refl, arith}
use Rattle.soundness.specs.Check.{all_below}
use Rattle.soundness.proofs.CheckTurns.{all-turn, all_end}
use Rattle.soundness.proofs.lines.every.Goals as goal

pub loop-k-init : goal.loop-k-init
unfolding all_below
loop-k-init g c f same = refl

pub loop-k-preserved : goal.loop-k-preserved
loop-k-preserved g c f same = all-turn _ f _ _ (c.loop-k.invariant f same) (same _ (omega arith) _ c.test-ok.ensures)

pub returns : goal.returns
returns g c f same = all_end _ _ f _ (c.loop-k.invariant f same) (omega arith)
