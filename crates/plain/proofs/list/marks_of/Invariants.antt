-- Each turn sets one row's mark, and those before it stay.
use Prim.Native.Nat.{ℕ, ◌<◌}
use mathlib.Core.Path.{◌≡◌}
use lib.ListN.{length, get_or}
use Rattle.bits.specs.Bit.{bit}
use Rattle.rules.specs.Numbers.{slots}
use Rattle.memory.specs.Reading.{state_of}
use Rattle.plain.proofs.list.marks_of.Given as goal

abbrev pub invariant-loop-row : goal.invariant-loop-row
invariant-loop-row l = (length l.list ≡ slots) × ((i : ℕ) → i < l.row → get_or l.list i 0 ≡ bit (get_or (state_of l.state).rows i 0) l.mask)
