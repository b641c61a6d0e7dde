-- Each turn adds one record's length; modulo 65,536 it does not matter when the remainder is taken.
use Rattle.std.proofs.Common.{◌≡◌, ◌%◌}
use Rattle.soundness.specs.Notes.{length_at, sum_of}
use Rattle.reader.proofs.notes.bytes_from.Given as goal

abbrev pub invariant-loop-i : goal.invariant-loop-i
invariant-loop-i l = l.sum ≡ sum_of (length_at l.state) l.place l.i % 65536
