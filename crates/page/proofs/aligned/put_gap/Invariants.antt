-- At each turn the spaces passed are written.
use Rattle.std.proofs.Common.{◌-◌, ◌≤◌}
use Rattle.octets.specs.Wrote.{Wrote}
use Rattle.page.specs.Puts.{gap}
use Rattle.page.proofs.aligned.put_gap.Given as goal

abbrev pub invariant-loop : goal.invariant-loop
invariant-loop l = record { wrote : Wrote l.fn.w (gap l.counter l.n) l.w; within : l.counter - l.n ≤ l.width - l.n }
