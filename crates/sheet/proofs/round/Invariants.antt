-- The visits that are left, from the place reached, give what the whole round gives.
use Prim.Native.Nat.{◌≤◌}
use lib.ListN.{length}
use mathlib.Core.Path.{◌≡◌}
use Rattle.spread.specs.Round.{round_of}
use Rattle.sheet.specs.Matching.{matched}
use Rattle.sheet.proofs.LinesLaws.{left}
use Rattle.sheet.proofs.round.Given as goal

abbrev pub invariant-loop-position : goal.invariant-loop-position
invariant-loop-position l = (l.at ≤ length l.rows) × (matched l.rows l.at (left l.k l.weights l.position) ≡ matched l.rows 0 (round_of l.weights))
