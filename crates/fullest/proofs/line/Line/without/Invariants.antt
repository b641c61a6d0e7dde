-- The line so far is the slots looked at but the one.
use Prim.Native.Nat.{◌≤◌}
use mathlib.Core.Path.{◌≡◌}
use lib.ListN.{length}
use Rattle.fullest.specs.Listing.{slots_from}
use Rattle.fullest.specs.Moved.{without}
use Rattle.fullest.proofs.line.Line.without.Given as goal

abbrev pub invariant-loop-t : goal.invariant-loop-t
invariant-loop-t l = (length l.self ≤ l.t-index) × (l.self ≡ without l.slot (slots_from l.state 0 l.t-index))
