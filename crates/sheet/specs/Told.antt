-- What document 02 says of each answer of the checker: accepted, or the first wrong place.
use Rattle.std.specs.Prelude.{ℕ, Option, Some, None, Result}
use Rattle.answers.specs.Answer.{Answer, mapped}
use Rattle.answers.specs.Told.{answered}
use Rattle.answers.specs.declared.Refusal.{Refusal}
use Rattle.sheet.specs.Sheet.{Sheet, right, wrong_at}

abbrev pub place_told : Option ℕ → Sheet
place_told None = right
place_told (Some p) = wrong_at p

abbrev pub sheet_told : Result (Option ℕ) Refusal → Answer Sheet
sheet_told r = mapped place_told (answered r)
