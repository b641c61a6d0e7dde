-- The word is written, and the number after it.
use Rattle.octets.proofs.WroteLaws.{then_wrote}
use Rattle.page.proofs.head.put_shown.Goals as goal

pub returns : goal.returns
returns c = then_wrote c.bytes.ensures c.put_or_dash.ensures
