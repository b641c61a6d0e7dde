-- A memory whose order is still to be worked out has its rows within the slots, and the columns show their order.
use Rattle.plain.proofs.OrderLaws.{rows-held}
use Rattle.plain.proofs.engine.ByHandEngine.order_of_rows.Goals as goal

pub order_of_rows-requires : goal.order_of_rows-requires
order_of_rows-requires c = (rows-held c.requires.fits c.requires.bytes, c.requires.rows-low)
