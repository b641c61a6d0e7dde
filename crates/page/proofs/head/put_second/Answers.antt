-- The words, the columns' numbers and the line feed are written one after the other.
use Rattle.octets.proofs.WroteLaws.{then_wrote}
use Rattle.page.proofs.head.put_second.Goals as goal

pub returns : goal.returns
returns c = then_wrote c.bytes.ensures (then_wrote c.put_columns.ensures c.byte.ensures)
