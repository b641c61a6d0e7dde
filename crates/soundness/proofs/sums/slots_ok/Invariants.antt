-- Before slot s the place is that of its first record, the total is the one before it, and the slots passed are tested.
use Rattle.std.proofs.Common.{◌≡◌, ◌%◌}
use Rattle.memory.specs.Reading.{first_at}
use Rattle.soundness.specs.Check.{all_below}
use Rattle.soundness.specs.Notes.{length_at, sum_of, bytes_rule}
use Rattle.soundness.proofs.sums.slots_ok.Given as goal

abbrev pub invariant-loop-s : goal.invariant-loop-s
invariant-loop-s l =
    (l.at ≡ first_at l.state l.s) × (l.before ≡ sum_of (length_at l.state) 0 l.at % 65536) × (l.ok ≡ all_below l.s (bytes_rule l.state))
