-- The spaces, `>`, and the number after them.
use Rattle.std.proofs.Common.{add-one}
use Rattle.octets.proofs.WroteLaws.{then_wrote}
use Rattle.page.proofs.head.put_scanned.Goals as goal

pub returns : goal.returns
returns c = then_wrote (rw (c.digits_of.ensures.0, add-one) at c.put_gap.ensures) (then_wrote c.byte.ensures c.put_decimal.ensures)
