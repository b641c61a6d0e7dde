-- The letter, the numbers and the line feed are written one after the other.
use Rattle.octets.proofs.WroteLaws.{then_wrote}
use Rattle.text.proofs.writing.put_line.Goals as goal

pub returns : goal.returns
returns c = then_wrote c.byte.ensures (then_wrote c.put_numbers.ensures c.byte-2.ensures)
