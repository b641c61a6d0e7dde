-- The four tests are on the numbers read, and on what the head record costs.
use Rattle.std.proofs.Common.{arith}
use Rattle.rules.specs.Numbers.{slots}
use Rattle.soundness.proofs.HeadFacts.{first-within}
use Rattle.soundness.proofs.CheckWays.{visited-law}
use Rattle.soundness.proofs.visited_ok.Goals as goal

pub overflow_add-first : goal.overflow_add-first
overflow_add-first c = omega (arith, first-within c.args.state.now c.args.v slots (omega arith))

pub read-length-requires : goal.read-length-requires
read-length-requires c = omega (arith, first-within c.args.state.now c.args.v slots (omega arith))

pub returns : goal.returns
returns c = visited-law _ _ _ _ _ _ _ _ c.first_of-first.ensures c.read-length.ensures c.cost_of-cost.ensures
    c.read-deficit.ensures c.load_mask-mask.ensures c.in_mask-listed.ensures
