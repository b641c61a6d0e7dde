-- The bytes passed are the number so far.
use Rattle.std.proofs.Common.{◌≡◌, ◌^◌, ◌<◌}
use Rattle.image.specs.Parts.{as_number}
use Rattle.reader.proofs.taking.number_of.Given as goal

abbrev pub invariant-loop-byte : goal.invariant-loop-byte
invariant-loop-byte l = (l.number < 256 ^ l.byte-index) × (l.number ≡ as_number l.byte-index l.bytes)
