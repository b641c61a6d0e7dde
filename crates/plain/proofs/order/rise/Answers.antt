-- The order found is that of the rows, and the larger of the two is stored.
use Rattle.plain.proofs.OrderLaws.{rows-held}
use Rattle.plain.proofs.order.rise.Goals as goal

pub order_of_rows-requires : goal.order_of_rows-requires
order_of_rows-requires c =
    let J = c.requires.1 in
    (rows-held J.held.fits J.held.bytes, J.rows-low)
