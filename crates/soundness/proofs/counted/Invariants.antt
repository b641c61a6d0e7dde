-- The local line holds how often each slot is found among the rows passed: a turn raises one of its bytes, which stays below the number of rows.
use Rattle.std.proofs.Common.{◌≡◌, length}
use Rattle.rules.specs.Numbers.{slots}
use Rattle.soundness.proofs.CheckTurns.{Counts}
use Rattle.soundness.proofs.counted.Given as goal

abbrev pub invariant-loop-k : goal.invariant-loop-k
invariant-loop-k l = (length l.seen ≡ slots) × Counts l.state l.k l.seen
