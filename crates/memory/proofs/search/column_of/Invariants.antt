-- The mask is that of the column of the rows passed; the next row to the front is in it or not.
use mathlib.Core.Path.{◌≡◌}
use lib.ListN.{drop}
use Rattle.bits.specs.Mask.{mask_of}
use Rattle.rules.specs.State.{weights, column_of}
use Rattle.memory.specs.Reading.{state_of}
use Rattle.memory.proofs.search.column_of.Given as goal

abbrev pub invariant-loop-i : goal.invariant-loop-i
invariant-loop-i l = l.mask ≡ mask_of (column_of (weights (state_of l.state).channels) (drop l.i (state_of l.state).rows) l.column)
