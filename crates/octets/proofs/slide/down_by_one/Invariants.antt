-- The first k bytes of the run have come down by one; each turn moves the byte behind them.
use Prim.Native.Nat.{◌+◌}
use mathlib.Core.Path.{◌≡◌}
use Rattle.octets.specs.Slide.{slid}
use Rattle.octets.proofs.slide.down_by_one.Given as goal

abbrev pub invariant-loop-k : goal.invariant-loop-k
invariant-loop-k l = l.b ≡ slid (l.i + 1) l.i l.k l.initial.b
