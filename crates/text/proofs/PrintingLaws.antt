-- A line of an answer is short, and says what the call left.
use mathlib.Core.List.{List}
use Prim.Native.Nat.{ℕ, ◌≤◌}
use native.Mathlib.Omega.{arith}
use Rattle.std.proofs.Common.{Fits, w32}
use lib.ListN.{length, get_or}
use Rattle.text.specs.Writing.{answer_line}
use Rattle.text.specs.Answers.{widest, fields_most}
use Rattle.text.proofs.SpacedLaws.{spaced-length, answer-length}

-- a letter and at most seven numbers of 32 bits
pub answer-short : (letter : ℕ) (ns : List ℕ) → ((i : ℕ) → Fits w32 (get_or ns i 0)) → length ns ≤ fields_most → length (answer_line letter ns) ≤ widest
answer-short letter ns small few = omega (arith, answer-length letter ns, spaced-length ns (λ i. let h = small i in omega arith))
