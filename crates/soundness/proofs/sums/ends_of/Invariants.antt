-- Before slot s the place is that of its first record, and the line holds the totals up to it.
use Rattle.std.proofs.Common.{◌≡◌}
use Rattle.memory.specs.Reading.{first_at}
use Rattle.soundness.specs.Notes.{Ended}
use Rattle.soundness.proofs.sums.ends_of.Given as goal

abbrev pub invariant-loop-s : goal.invariant-loop-s
invariant-loop-s l = (l.at ≡ first_at l.state l.s) × Ended l.state l.s l.ends
