-- The test of each slot is the rule's.
use Rattle.std.proofs.Common.{rules}
use Rattle.soundness.specs.Notes.{between_rule}
use Rattle.soundness.proofs.sums.between_ok.Goals as goal

pub returns : goal.returns
unfolding between_rule
returns c = search rules
