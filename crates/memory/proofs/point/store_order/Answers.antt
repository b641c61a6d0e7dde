-- One byte is written, that of the order.
use Rattle.memory.proofs.PointEdits.{order-set}
use Rattle.memory.proofs.point.store_order.Goals as goal

pub returns : goal.returns
returns c = λ s F e. rw e (order-set F c.args.order c.ranges.order.fits)
