-- The lowest slot of all is so many as were passed and the lowest of those that are left.
use Prim.Native.Nat.{◌+◌}
use mathlib.Core.Path.{◌≡◌}
use lib.ListN.{drop}
use Rattle.rules.specs.Calls.{lowest}
use Rattle.memory.specs.Reading.{state_of}
use Rattle.memory.proofs.search.lowest_of.Given as goal

abbrev pub invariant-loop-slot : goal.invariant-loop-slot
invariant-loop-slot l = lowest (state_of l.state).channels ≡ l.slot + lowest (drop l.slot (state_of l.state).channels)
