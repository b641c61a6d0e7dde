-- The columns before this one are laid.
use mathlib.Core.Path.{◌≡◌}
use lib.ListN.{length}
use Rattle.sheet.specs.Lines.{Laid}
use Rattle.sheet.proofs.lay.Given as goal

abbrev pub invariant-loop-column : goal.invariant-loop-column
invariant-loop-column l = (length l.lines ≡ 12) × Laid l.weights l.lines l.column
