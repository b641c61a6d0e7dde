-- Round sheets (02 §9): what the checker says of a list of row numbers.
use Rattle.std.specs.Prelude.{ℕ, suc, ◌≡◌, Bool, cond, List, [], ◌∷◌, eqb, ltb, length, take}
use Rattle.std.specs.List.{list_any}
use Rattle.answers.specs.Answer.{too_many, bad_weight, Answer, given, ◌gives◌, checked}
use Rattle.spread.specs.Limits.{outside}
use Rattle.spread.specs.Round.{round_of}

-- "given up to 64 weights"
abbrev pub rows_most : ℕ
rows_most = 64

-- A sheet's weights go from 1 to this, so it has at most 12 columns. These are the sheet's own limits, whatever the scheduler's.
abbrev pub heaviest_on_sheet : ℕ
heaviest_on_sheet = 4095

abbrev pub columns_on_sheet : ℕ
columns_on_sheet = 12

-- accepted, or the first wrong place
pub data Sheet : Type 0 where
  right : Sheet
  wrong_at : ℕ → Sheet

-- What is left of a list held against what is left of the visits, from place p on. Where one of the two has ended and the other goes on, that place is
-- wrong too: it is "the place after the last if the list is too short", and the first one too many if it is too long.
unfoldable pub sheet_from : ℕ → List ℕ → List ℕ → Sheet
sheet_from p [] [] = right
sheet_from p [] (v ∷ vs) = wrong_at p
sheet_from p (r ∷ rs) [] = wrong_at p
sheet_from p (r ∷ rs) (v ∷ vs) = let later = sheet_from (suc p) rs vs in cond (eqb r v) later (wrong_at p)

-- "it accepts exactly if the list is the visits [..]. Otherwise it names the first wrong place", "places counted from 0"
unfoldable pub sheet_of : List ℕ → List ℕ → Sheet
sheet_of rows visits = sheet_from 0 rows visits

-- What "the first wrong place" is: the list and the visits agree up to before it, and no further.
pub record FirstWrong (n : ℕ) (rows visits : List ℕ) : Type 0 where
  pub agree : take n rows ≡ take n visits
  pub differ : take (suc n) rows ≡ take (suc n) visits → ⊥

-- whether a weight is out of range
abbrev pub any_bad : List ℕ → Bool
any_bad = list_any (outside 1 heaviest_on_sheet)

-- "Refusals: 6 for a weight out of range; 17 for more than 64 weights, before 6."
unfoldable pub sheet_call : List ℕ → List ℕ → Answer Sheet
sheet_call weights rows =
    checked ((ltb rows_most (length weights) gives too_many) ∷ (any_bad weights gives bad_weight) ∷ []) (given (sheet_of rows (round_of weights)))

-- the fields of the answer: 1 if accepted else 0; the first wrong place, 0 if accepted
abbrev pub sheet_fields : Sheet → List ℕ
sheet_fields right = 1 ∷ 0 ∷ []
sheet_fields (wrong_at p) = 0 ∷ p ∷ []
