-- The byte read is the mark by definition.
use mathlib.Core.Path.{refl}
use Rattle.memory.specs.Reading.{state_of}
use Rattle.memory.proofs.point.is_parked.Goals as goal

pub returns : goal.returns
unfolding state_of
returns c = refl
