-- The columns passed are empty, and the one that stops the search is not.
use Prim.Native.Nat.{ℕ, ◌≤◌, ◌<◌}
use mathlib.Core.Path.{◌≡◌}
use Rattle.spread.specs.Limits.{columns}
use Rattle.plain.specs.Matrix.{cell}
use Rattle.plain.proofs.matrix.order_in.Given as goal

abbrev pub invariant-loop-column : goal.invariant-loop-column
invariant-loop-column l = (c r : ℕ) → l.column ≤ c → c < columns → r < l.count → cell l.matrix c r ≡ 0
