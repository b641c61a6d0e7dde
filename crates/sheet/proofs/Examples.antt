-- Sheets by computing: right ones, each kind of wrong one, and the two refusals in their order.
use mathlib.Core.Path.{◌≡◌, refl}
use mathlib.Core.List.{[], ◌∷◌}
use lib.ListN.{replicate}
use Rattle.bits.specs.Bit.{bit}
use Rattle.bits.specs.Order.{order, order_in}
use Rattle.bits.specs.Trailing.{trailing, trailing_in}
use Rattle.answers.specs.Answer.{given, number}
use Rattle.spread.specs.Sequence.{term}
use Rattle.spread.specs.Visits.{column_at}
use Rattle.spread.specs.Round.{order_all, rows_with, visits_from, round_of}
use Rattle.sheet.specs.Sheet.{right, wrong_at, sheet_from, sheet_of, sheet_call}

-- document 01, case 5: weights 1, 4, 8, 3, "joined so"
case_five : sheet_call (1 ∷ 4 ∷ 8 ∷ 3 ∷ []) (2 ∷ 1 ∷ 2 ∷ 3 ∷ 2 ∷ 1 ∷ 2 ∷ 0 ∷ 3 ∷ 2 ∷ 1 ∷ 2 ∷ 3 ∷ 2 ∷ 1 ∷ 2 ∷ []) ≡ given right
unfolding bit order order_in trailing trailing_in term column_at order_all rows_with visits_from round_of sheet_from sheet_of sheet_call
case_five = refl

-- "No rows and an empty list is accepted." Any row is then one too many.
no_rows : (sheet_call [] [] ≡ given right) × (sheet_call [] (0 ∷ []) ≡ given (wrong_at 0))
unfolding bit order order_in trailing trailing_in term column_at order_all rows_with visits_from round_of sheet_from sheet_of sheet_call
no_rows = (refl, refl)

-- rows 0 and 2 share a column and are visited in joining order, at places 0 and 1 and again at 3 and 4; with the later one first, place 0 is wrong
shared-column : (sheet_call (2 ∷ 1 ∷ 2 ∷ []) (0 ∷ 2 ∷ 1 ∷ 0 ∷ 2 ∷ []) ≡ given right)
    × (sheet_call (2 ∷ 1 ∷ 2 ∷ []) (2 ∷ 0 ∷ 1 ∷ 0 ∷ 2 ∷ []) ≡ given (wrong_at 0))
    × (sheet_call (2 ∷ 1 ∷ 2 ∷ []) (0 ∷ 2 ∷ 1 ∷ 2 ∷ 0 ∷ []) ≡ given (wrong_at 3))
unfolding bit order order_in trailing trailing_in term column_at order_all rows_with visits_from round_of sheet_from sheet_of sheet_call
shared-column = (refl, refl, refl)

-- too short, by one and empty; too long; a row number out of range
wrong-ones : (sheet_call (2 ∷ 1 ∷ []) (0 ∷ 1 ∷ []) ≡ given (wrong_at 2)) × (sheet_call (2 ∷ 1 ∷ []) [] ≡ given (wrong_at 0))
    × (sheet_call (2 ∷ 1 ∷ []) (0 ∷ 1 ∷ 0 ∷ 0 ∷ []) ≡ given (wrong_at 3)) × (sheet_call (2 ∷ 1 ∷ []) (0 ∷ 4294967295 ∷ 0 ∷ []) ≡ given (wrong_at 1))
unfolding bit order order_in trailing trailing_in term column_at order_all rows_with visits_from round_of sheet_from sheet_of sheet_call
wrong-ones = (refl, refl, refl, refl)

-- a weight of 0, one of 4,096, and 65 weights of which all are out of range
refusals : (number (sheet_call (4095 ∷ 0 ∷ []) []) ≡ 6) × (number (sheet_call (4096 ∷ []) []) ≡ 6) × (number (sheet_call (replicate 64 0) []) ≡ 6)
    × (number (sheet_call (replicate 65 0) []) ≡ 17)
unfolding sheet_call
refusals = (refl, refl, refl, refl)
