-- The sum so far is the use of the slots passed; 16 bits hold it, so that a compiler can add up eight at a time.
use Prim.Native.Nat.{◌*◌, ◌≤◌}
use mathlib.Core.Path.{◌≡◌}
use Rattle.memory.specs.Search.{used_at}
use Rattle.memory.proofs.records.shared_use.Given as goal

abbrev pub invariant-loop-s : goal.invariant-loop-s
invariant-loop-s l = (l.sum ≤ 255 * l.s) × (l.sum ≡ used_at l.state l.s)
