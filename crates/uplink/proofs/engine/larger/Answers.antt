-- A weight's order is at most its 16 bits.
use Rattle.std.proofs.Common.{arith}
use Rattle.bits.proofs.OrderLaws.{order_le}
use Rattle.uplink.proofs.engine.larger.Goals as goal

pub overflow_cast-order_of : goal.overflow_cast-order_of
overflow_cast-order_of c = record { fits = omega (arith, rw c.from.ensures at c.order_of.ensures, order_le c.args.weight 16 c.ranges.weight.fits) }
