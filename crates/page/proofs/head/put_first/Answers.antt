-- Each word with its number, and then the line feed.
use Rattle.octets.proofs.WroteLaws.{then_wrote}
use Rattle.page.proofs.head.put_first.Goals as goal

pub returns : goal.returns
returns c = then_wrote c.put_number.ensures (then_wrote c.put_number-2.ensures (then_wrote c.put_shown.ensures (then_wrote c.put_shown-2.ensures c.byte.ensures)))
