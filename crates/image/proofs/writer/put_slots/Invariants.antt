-- At each turn the slots passed are written, and `place` is where the next one's records begin.
use Rattle.std.proofs.Common.{◌≡◌}
use Rattle.memory.specs.Reading.{first_at}
use Rattle.octets.specs.Wrote.{Wrote}
use Rattle.image.proofs.EntryLaws.{entries_to}
use Rattle.image.proofs.writer.put_slots.Given as goal

abbrev pub invariant-loop-slot : goal.invariant-loop-slot
invariant-loop-slot l = (l.place ≡ first_at l.state l.slot) × Wrote l.fn.w (entries_to l.version.number l.state l.slot) l.w
