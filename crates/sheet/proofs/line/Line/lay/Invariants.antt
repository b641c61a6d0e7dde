-- What stands in the line and what is still to come are the column.
use Prim.Native.Nat.{◌≤◌}
use mathlib.Core.Path.{◌≡◌}
use mathlib.Core.List.{◌++◌}
use lib.ListN.{length, take, drop}
use Rattle.spread.specs.Round.{rows_with}
use Rattle.sheet.proofs.line.Line.lay.Given as goal

abbrev pub invariant-loop-row : goal.invariant-loop-row
invariant-loop-row l = (l.count ≤ l.row) × (length l.self.rows ≡ 64) × (take l.count l.self.rows ++ rows_with l.column l.row (drop l.row l.weights) ≡ rows_with l.column 0 l.weights)
