-- The last bytes of the run have moved up by one, k are still to move; each turn moves the last of these.
use Prim.Native.Nat.{◌+◌, ◌-◌}
use mathlib.Core.Path.{◌≡◌}
use Rattle.octets.specs.Slide.{slid}
use Rattle.octets.proofs.slide.up_by_one.Given as goal

abbrev pub invariant-loop-k : goal.invariant-loop-k
invariant-loop-k l = l.b ≡ slid (l.i + l.k) (l.i + l.k + 1) (l.n - l.k) l.initial.b
