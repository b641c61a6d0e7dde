-- The first k bytes of the step are written; each turn writes the next.
use mathlib.Core.Path.{◌≡◌}
use Rattle.octets.specs.Slide.{copied}
use Rattle.octets.proofs.slide.copy_step.Given as goal

abbrev pub invariant-loop-k : goal.invariant-loop-k
invariant-loop-k l = l.b ≡ copied l.a l.i l.j l.k l.initial.b
