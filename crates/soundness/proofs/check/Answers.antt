-- Bytes of another length are no memory.
use Rattle.std.proofs.Common.{◌≡◌, ℕ, List, length, false, ne_eqb}
use Rattle.memory.specs.Layout.{memory_length}
use Rattle.memory.specs.Memory.{sound_bytes}
use Rattle.soundness.proofs.check.Goals as goal

other-size : (b : List ℕ) → (length b ≡ memory_length → ⊥) → false ≡ sound_bytes b
unfolding sound_bytes
other-size b d = rw (ne_eqb (length b) memory_length d)

pub returns-in_default : goal.returns-in_default
returns-in_default c = other-size _ c.in_default.ensures.1
