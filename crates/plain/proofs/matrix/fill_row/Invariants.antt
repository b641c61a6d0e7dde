-- Each turn sets the row's cell of one column; the cells of the other rows stay.
use Prim.Native.Nat.{ℕ, ◌<◌}
use mathlib.Core.Path.{◌≡◌}
use Rattle.bits.specs.Bit.{bit}
use Rattle.rules.specs.Numbers.{slots}
use Rattle.plain.specs.Matrix.{cell}
use Rattle.plain.proofs.matrix.fill_row.Given as goal

abbrev pub invariant-loop-column : goal.invariant-loop-column
invariant-loop-column l =
    ((c : ℕ) → c < l.column → cell l.matrix c l.row ≡ bit c l.weight)
    × ((c r : ℕ) → r < slots → (r ≡ l.row → ⊥) → cell l.matrix c r ≡ cell l.initial.matrix c r)
