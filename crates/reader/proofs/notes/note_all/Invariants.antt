-- The notes are right for the slots passed, and the base stays.
use Rattle.std.proofs.Common.{◌≡◌, ◌*◌, ◌≤◌}
use Rattle.memory.specs.Memory.{base}
use Rattle.memory.specs.Reading.{first_at}
use Rattle.fullest.specs.Noted.{NotedBy}
use Rattle.reader.specs.Decoding.{bytes_to}
use Rattle.reader.proofs.notes.note_all.Given as goal

abbrev pub invariant-loop-slot : goal.invariant-loop-slot
invariant-loop-slot l =
    (l.place ≤ 255 * l.slot)
    × (l.place ≡ first_at (base l.initial.memory) l.slot)
    × (base l.memory ≡ base l.initial.memory)
    × NotedBy (bytes_to (base l.initial.memory) l.slot) l.memory
