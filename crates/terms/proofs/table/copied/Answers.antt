-- The table is S(12), which is computed beside it.
use mathlib.Core.Path.{refl}
use Rattle.spread.specs.Sequence.{spread}
use Rattle.terms.proofs.table.copied.Goals as goal

pub returns : goal.returns
unfolding spread
returns c = refl
