-- Each turn adds one slot's records, at most 255.
use Rattle.std.proofs.Common.{◌≡◌, refl, arith}
use Rattle.memory.specs.Reading.{first_at}
use Rattle.soundness.proofs.SumLaws.{first-turn}
use Rattle.soundness.proofs.total_of.Goals as goal

pub loop-s-init : goal.loop-s-init
unfolding first_at
loop-s-init c = (refl, omega arith)

pub loop-s-preserved : goal.loop-s-preserved
loop-s-preserved c = (omega (arith, first-turn c.args.state.now c.loop-s.s), omega (arith, c.fits-state))

pub returns : goal.returns
returns c = let e : c.loop-s.s ≡ 64 = omega arith in rw e at c.loop-s.invariant.0
