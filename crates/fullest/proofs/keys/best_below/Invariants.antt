-- Each turn looks at one slot, whose key is made of the bytes read; the greatest key below the limit is the first of those below it.
use mathlib.Core.Path.{◌≡◌}
use Rattle.memory.specs.Reading.{bytes_at}
use Rattle.fullest.specs.Moved.{best_below}
use Rattle.fullest.proofs.keys.best_below.Given as goal

abbrev pub invariant-loop-s : goal.invariant-loop-s
invariant-loop-s l = l.best ≡ best_below (bytes_at l.state) l.limit l.s
