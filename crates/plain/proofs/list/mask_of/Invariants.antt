-- The mask is that of the rows passed, from the last on; the next row is added to it where it has a mark.
use mathlib.Core.Path.{◌≡◌}
use lib.ListN.{get_or, drop}
use Rattle.bits.specs.Mask.{mask_of}
use Rattle.memory.specs.Reading.{state_of}
use Rattle.plain.specs.Marks.{marked_from}
use Rattle.plain.proofs.list.mask_of.Given as goal

abbrev pub invariant-loop-row : goal.invariant-loop-row
invariant-loop-row l = l.mask ≡ mask_of (marked_from (λ i. get_or l.list i 0) l.row (drop l.row (state_of l.state).rows))
