-- The sum so far is the first place of the next slot; 16 bits hold it, so that a compiler can add up eight at a time.
use Prim.Native.Nat.{◌≤◌, ◌*◌}
use mathlib.Core.Path.{◌≡◌}
use Rattle.memory.specs.Reading.{first_at}
use Rattle.memory.proofs.records.first_of.Given as goal

abbrev pub invariant-loop-s : goal.invariant-loop-s
invariant-loop-s l = (l.sum ≤ 255 * l.s) × (l.sum ≡ first_at l.state l.s)
