-- Each turn slides the next line down, so that the lines passed are closed.
use mathlib.Core.Path.{◌≡◌}
use Rattle.rules.specs.Numbers.{cells}
use Rattle.memory.specs.Fields.{edited, lowered}
use Rattle.memory.proofs.records.close_lines.Given as goal

abbrev pub invariant-loop-j : goal.invariant-loop-j
invariant-loop-j l = l.state ≡ edited (lowered l.last l.place) l.field cells l.j l.initial.state
