-- The slots looked at and those left make up the mask; each turn looks at the lowest that is left.
use Rattle.std.proofs.Common.{◌≡◌, ◌&&◌}
use Rattle.soundness.specs.Check.{in_column_rule}
use Rattle.soundness.proofs.in_column.Given as goal

abbrev pub invariant-loop-left : goal.invariant-loop-left
invariant-loop-left l = (l.ok && in_column_rule l.state l.left l.column) ≡ in_column_rule l.state l.mask l.column

abbrev pub decreases-loop-left : goal.decreases-loop-left
decreases-loop-left l = l.left
