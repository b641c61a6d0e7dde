-- The spaces, and the number after them.
use Rattle.octets.proofs.WroteLaws.{then_wrote}
use Rattle.page.proofs.aligned.put_aligned.Goals as goal

pub returns : goal.returns
returns c = then_wrote (rw c.digits_of.ensures.0 at c.put_gap.ensures) c.put_decimal.ensures
