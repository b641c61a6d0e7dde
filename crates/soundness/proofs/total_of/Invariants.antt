-- Each turn adds one slot's records, at most 255.
use Rattle.std.proofs.Common.{◌≡◌, ◌*◌, ◌≤◌}
use Rattle.memory.specs.Reading.{first_at}
use Rattle.soundness.proofs.total_of.Given as goal

abbrev pub invariant-loop-s : goal.invariant-loop-s
invariant-loop-s l = (l.total ≡ first_at l.state l.s) × (l.total ≤ 255 * l.s)
