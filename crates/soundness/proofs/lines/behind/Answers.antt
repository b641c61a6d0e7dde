-- The test of each cell is the rule's.
use Rattle.std.proofs.Common.{rules}
use Rattle.soundness.specs.Check.{behind_rule}
use Rattle.soundness.proofs.lines.behind.Goals as goal

pub returns : goal.returns
unfolding behind_rule
returns c = search rules
