-- The numbers passed are taken.
use Rattle.std.proofs.Common.{◌≡◌, length, take, drop}
use Rattle.image.specs.Parts.{span}
use Rattle.reader.proofs.TakingLaws.{taken_to}
use Rattle.reader.proofs.taking.take_parts.Given as goal

abbrev pub invariant-loop-i : goal.invariant-loop-i
invariant-loop-i l =
    (length l.numbers ≡ length l.initial.numbers)
    × (l.left ≡ drop (span (take l.i l.widths)) l.image)
    × (l.numbers ≡ taken_to l.i l.widths l.image l.initial.numbers)
