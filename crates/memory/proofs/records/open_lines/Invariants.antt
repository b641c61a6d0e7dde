-- Each turn slides the next line up, so that the lines passed are opened.
use mathlib.Core.Path.{◌≡◌}
use Rattle.rules.specs.Numbers.{cells}
use Rattle.memory.specs.Fields.{edited, raised}
use Rattle.memory.proofs.records.open_lines.Given as goal

abbrev pub invariant-loop-j : goal.invariant-loop-j
invariant-loop-j l = l.state ≡ edited (raised l.last l.place) l.field cells l.j l.initial.state
