-- Shifting right by the place halves the number so often.
use mathlib.Core.Path.{refl}
use Rattle.bits.specs.Bit.{bit}
use Rattle.plain.proofs.matrix.bit_at.Goals as goal

pub returns : goal.returns
unfolding bit
returns c = refl
