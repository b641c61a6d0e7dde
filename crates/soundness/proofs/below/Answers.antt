-- The test of each row is the rule's.
use Rattle.std.proofs.Common.{rules}
use Rattle.soundness.specs.Check.{below_rule}
use Rattle.soundness.proofs.below.Goals as goal

pub returns : goal.returns
unfolding below_rule
returns c = search rules
