-- One byte is written, that of the mark.
use Rattle.memory.proofs.PointEdits.{mark_set}
use Rattle.memory.proofs.point.park.Goals as goal

pub returns : goal.returns
returns c = λ s F e. rw e (mark_set F)
