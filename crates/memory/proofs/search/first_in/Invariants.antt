-- A row that is not in the mask may be passed over, so the first one that is left is the first of all. It is a slot, so there is one left.
use Prim.Native.Nat.{◌-◌, ◌<◌}
use mathlib.Core.Path.{◌≡◌}
use lib.ListN.{get_or, drop}
use Rattle.rules.specs.Numbers.{slots}
use Rattle.memory.specs.Reading.{row_count_at, in_mask, state_of}
use Rattle.memory.specs.Search.{first_slot}
use Rattle.memory.proofs.search.first_in.Given as goal

abbrev pub invariant-loop-row : goal.invariant-loop-row
invariant-loop-row l =
    (l.i < row_count_at l.state) × (l.row ≡ get_or (state_of l.state).rows l.i 0) × (l.row < slots)
    × (first_slot (in_mask l.mask (state_of l.state).rows) ≡ first_slot (in_mask l.mask (drop l.i (state_of l.state).rows)))

abbrev pub decreases-loop-row : goal.decreases-loop-row
decreases-loop-row l = row_count_at l.state - l.i
