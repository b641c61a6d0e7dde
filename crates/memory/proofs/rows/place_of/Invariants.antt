-- No row before k is the slot, so the slot, which is a row, is found.
use Prim.Native.Nat.{ℕ, ◌<◌}
use mathlib.Core.Path.{◌≡◌}
use Rattle.memory.specs.Names as the
use Rattle.memory.specs.Reading.{byte_in}
use Rattle.memory.proofs.rows.place_of.Given as goal

abbrev pub invariant-loop-k : goal.invariant-loop-k
invariant-loop-k l = (j : ℕ) → j < l.k → byte_in the.rows l.state j ≡ l.slot → ⊥
