-- The highest column of the matrix filled is the order of the rows.
use Rattle.plain.proofs.MatrixLaws.{order-found}
use Rattle.plain.proofs.matrix.order_of_rows.Goals as goal

pub returns : goal.returns
returns c = order-found c.args.state.now c.filled.result c.row_count.result c.order_in.result c.row_count.ensures.0 c.filled.ensures c.requires.1 c.order_in.ensures
