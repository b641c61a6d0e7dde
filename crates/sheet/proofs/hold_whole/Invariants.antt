-- What is still wanted, from the place reached, gives what was wanted at first.
use Prim.Native.Nat.{◌+◌}
use mathlib.Core.Path.{◌≡◌}
use lib.ListN.{drop}
use Rattle.sheet.specs.Matching.{matched}
use Rattle.sheet.proofs.hold_whole.Given as goal

abbrev pub invariant-loop-i : goal.invariant-loop-i
invariant-loop-i l = matched l.rows (l.start + l.i) (drop l.i l.line) ≡ matched l.rows l.start l.line
