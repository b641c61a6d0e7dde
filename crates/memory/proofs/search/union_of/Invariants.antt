-- Each turn adds one slot's weight, if it is a row, to the union of those before it.
use mathlib.Core.Path.{◌≡◌}
use Rattle.memory.specs.Search.{union}
use Rattle.memory.proofs.search.union_of.Given as goal

abbrev pub invariant-loop-s : goal.invariant-loop-s
invariant-loop-s l = l.all ≡ union l.state l.s
