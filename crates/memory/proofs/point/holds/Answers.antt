-- The two tests are those of the numbers.
use Rattle.memory.specs.Point.{holds_at}
use Rattle.memory.proofs.point.holds.Goals as goal

pub returns : goal.returns
unfolding holds_at
returns c = rw c.row_count-count.ensures.0
