-- Whether one was bad so far, or one of the rest is.
use mathlib.Core.Path.{◌∙◌}
use mathlib.Core.Bool.{Bool, false, ◌||◌}
use Prim.Native.Nat.{ℕ}
use borrow.Author.Rules.{rules}
use Rattle.std.proofs.lemmas.Iterator.Consumers.{fold_from_yields_List}
use Rattle.std.proofs.lemmas.Iterator.{YieldsList-from_slice}
use Rattle.spread.specs.Limits.{outside}
use Rattle.sheet.specs.Sheet.{heaviest_on_sheet}
use Rattle.sheet.proofs.WeightLaws.{any-fold}
use Rattle.sheet.proofs.any_bad.Goals as goal

pub returns : goal.returns
returns c =
    fold_from_yields_List _ (λ (bad : Bool) (w : ℕ). bad || outside 1 heaviest_on_sheet w) false _ c.fold.ensures.ran
    (YieldsList-from_slice c.args.weights.now (search rules)) (λ a x b q called. search rules) ∙ any-fold false c.args.weights.now
