-- At each turn the highest column that is left is written.
use Rattle.page.specs.InNumbers.{cells_at}
use Rattle.page.proofs.PutLaws.{Going}
use Rattle.page.proofs.rows.put_cells.Given as goal

abbrev pub invariant-loop-column : goal.invariant-loop-column
invariant-loop-column l = Going l.fn.w (cells_at l.matrix l.row l.order) (cells_at l.matrix l.row l.column) l.w
