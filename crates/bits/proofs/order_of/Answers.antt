-- What is left of 32 bits beside the leading zeros is the order.
use mathlib.Core.Path.{sym}
use lib.Count.{leading_le}
use Rattle.bits.proofs.OrderLaws.{order-leading}
use Rattle.bits.proofs.order_of.Goals as goal

pub overflow_sub-result : goal.overflow_sub-result
overflow_sub-result c = leading_le 32 c.args.w

pub returns : goal.returns
returns c = sym (order-leading 32 c.args.w c.ranges.w.fits)
