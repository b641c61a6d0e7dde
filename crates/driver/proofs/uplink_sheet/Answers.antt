-- A buffer of another length keeps all; else it shows what the call answers.
use mathlib.Core.Path.{◌≡◌, refl, ap}
use Rattle.std.specs.Prelude.{ℕ, [], ◌∷◌, Option, None, Some}
use Rattle.std.specs.Option.{option_map_or}
use Rattle.sheet.specs.Sheet.{sheet_fields}
use Rattle.sheet.specs.Told.{place_told, sheet_told}
use Rattle.driver.specs.Words.{words}
use Rattle.driver.specs.Entered.{stateless}
use Rattle.driver.proofs.EnteredLaws.{entered-kept, entered-told}
use Rattle.driver.proofs.uplink_sheet.Goals as goal

pub returns-then-answer-ne8 : goal.returns-then-answer-ne8
returns-then-answer-ne8 c = rw c.wrong_length.ensures (entered-kept _ _ _ _ _ c.if-answer-ne8.true)

same : (wrong : Option ℕ) → sheet_fields (place_told wrong) ≡ option_map_or (λ (p : ℕ). 0 ∷ p ∷ []) wrong (1 ∷ 0 ∷ [])
same None = refl
same (Some p) = refl

pub returns : goal.returns
returns c =
    entered-told _ _ _ _ _ sheet_told _ (λ w. refl) (λ wrong e. (refl, ap words (same wrong))) c.if-answer-ne8.false (ap stateless c.check.ensures)
    c.told.ensures
