-- The word is written, and the number after it.
use Rattle.octets.proofs.WroteLaws.{then_wrote}
use Rattle.page.proofs.head.put_number.Goals as goal

pub returns : goal.returns
returns c = then_wrote c.bytes.ensures c.put_decimal.ensures
