-- The test of each slot is the rule's.
use Rattle.std.proofs.Common.{rules}
use Rattle.soundness.specs.Notes.{idle_rule}
use Rattle.soundness.proofs.sums.idle_ok.Goals as goal

pub returns : goal.returns
unfolding idle_rule
returns c = search rules
