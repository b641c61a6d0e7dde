-- The slots passed are in the memory.
use Rattle.std.proofs.Common.{◌≡◌, ℕ, ◌*◌, ◌≤◌, List, drop}
use Rattle.rules.specs.Numbers.{slots}
use Rattle.rules.specs.State.{Channel, fresh}
use Rattle.memory.specs.Reading.{first_at}
use Rattle.memory.specs.Fits.{Fits}
use Rattle.image.specs.Image.{entries}
use Rattle.reader.specs.Decoding.{Reached, with_channels, done_to}
use Rattle.reader.proofs.decode.read_slots.Given as goal

abbrev pub invariant-loop-slot : goal.invariant-loop-slot
invariant-loop-slot l =
    (l.place ≤ 255 * l.slot)
    × ((e : ℕ) (cs : List Channel) → Fits (with_channels (fresh e) cs) → Reached l.image (entries l.version.number cs) l.initial.memory (fresh e)
    → (l.place ≡ first_at l.memory slots) × Reached l.left (entries l.version.number (drop l.slot cs)) l.memory (with_channels (fresh e) (done_to cs l.slot)))
