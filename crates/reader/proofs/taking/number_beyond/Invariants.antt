-- The bytes passed are the number so far.
use Rattle.std.proofs.Common.{◌≡◌, ◌^◌, ◌<◌}
use Rattle.image.specs.Parts.{as_number}
use Rattle.reader.proofs.taking.number_beyond.Given as goal

abbrev pub invariant-loop-i : goal.invariant-loop-i
invariant-loop-i l = (l.number < 256 ^ l.i) × (l.number ≡ as_number l.i l.image)
