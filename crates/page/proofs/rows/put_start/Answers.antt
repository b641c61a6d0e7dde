-- The bar, the slot, the weight and two spaces are written one after the other.
use Rattle.octets.proofs.WroteLaws.{then_wrote}
use Rattle.page.proofs.rows.put_start.Goals as goal

pub returns : goal.returns
returns c = then_wrote c.byte.ensures (then_wrote c.put_aligned.ensures (then_wrote c.put_aligned-2.ensures c.bytes.ensures))
