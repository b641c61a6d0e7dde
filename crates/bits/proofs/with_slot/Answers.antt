-- The shifted one stays within 64 bits, and `|` with it sets its bit.
use mathlib.Core.Path.{sym, ap, ◌∙◌}
use lib.Bits.{bit_or}
use Rattle.bits.proofs.BitLaws.{one_shl, with_or}
use Rattle.bits.proofs.with_slot.Goals as goal

pub returns : goal.returns
returns c = ap (bit_or c.args.mask) (one_shl c.args.slot c.requires) ∙ sym (with_or c.args.slot c.args.mask)
