-- Each turn adds one number; modulo 65,536 it does not matter when the remainder is taken.
use Rattle.std.proofs.Common.{◌≡◌, ◌%◌, get_or}
use Rattle.soundness.specs.Notes.{sum_of}
use Rattle.soundness.proofs.sums.eight.Given as goal

abbrev pub invariant-loop-k : goal.invariant-loop-k
invariant-loop-k l = l.sum ≡ sum_of (λ i. get_or l.v i 0) l.at l.k % 65536
