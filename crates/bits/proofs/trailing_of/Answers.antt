-- The trailing zeros of 32 bits are those of the number, which is not 0.
use mathlib.Core.Path.{sym}
use Rattle.bits.proofs.TrailingLaws.{trailing-count}
use Rattle.bits.proofs.trailing_of.Goals as goal

pub returns : goal.returns
returns c = sym (trailing-count 32 c.args.p c.requires c.ranges.p.fits)
