-- The test of each slot is the rule's.
use Rattle.std.proofs.Common.{rules}
use Rattle.soundness.specs.Check.{heads_rule}
use Rattle.soundness.proofs.lines.heads.Goals as goal

pub returns : goal.returns
unfolding heads_rule
returns c = search rules
