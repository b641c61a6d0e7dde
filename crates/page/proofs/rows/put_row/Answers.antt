-- The slot and weight, the cells, the mark and the line feed are written one after the other.
use Rattle.octets.proofs.WroteLaws.{then_wrote}
use Rattle.page.proofs.rows.put_row.Goals as goal

pub returns : goal.returns
returns c = then_wrote c.put_start.ensures (then_wrote (rw c.from.ensures at c.put_cells.ensures) (then_wrote c.put_mark.ensures c.byte.ensures))
