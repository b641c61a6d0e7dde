-- The sample of specs/Page.antt is the page of its numbers, byte by byte.
use mathlib.Core.Path.{◌≡◌, refl}
use mathlib.Core.List.{List, [], ◌∷◌, ◌++◌}
use Prim.Native.Nat.{ℕ}
use lib.Dec.{eqb}
use lib.ListN.{get_or}
use Rattle.bits.specs.Bit.{bit}
use Rattle.bits.specs.Trailing.{trailing, trailing_in}
use Rattle.spread.specs.Sequence.{term}
use Rattle.text.specs.Digits.{digits_by}
use Rattle.page.specs.Page.{term_shown, down, row_lines, page_text}

-- `|  order 3   P 1   term 1   column 2`
abbrev first : List ℕ
first = 124 ∷ 32 ∷ 32 ∷ 111 ∷ 114 ∷ 100 ∷ 101 ∷ 114 ∷ 32 ∷ 51 ∷ 32 ∷ 32 ∷ 32 ∷ 80 ∷ 32 ∷ 49 ∷ 32 ∷ 32 ∷ 32 ∷ 116 ∷ 101 ∷ 114 ∷ 109 ∷ 32 ∷ 49 ∷ 32 ∷ 32 ∷ 32 ∷ 99 ∷ 111 ∷ 108 ∷ 117 ∷ 109 ∷ 110 ∷ 32 ∷ 50 ∷ 10 ∷ []

-- `|    slot   weight   >2  1  0`
abbrev columns : List ℕ
columns = 124 ∷ 32 ∷ 32 ∷ 32 ∷ 32 ∷ 115 ∷ 108 ∷ 111 ∷ 116 ∷ 32 ∷ 32 ∷ 32 ∷ 119 ∷ 101 ∷ 105 ∷ 103 ∷ 104 ∷ 116 ∷ 32 ∷ 32 ∷ 32 ∷ 62 ∷ 50 ∷ 32 ∷ 32 ∷ 49 ∷ 32 ∷ 32 ∷ 48 ∷ 10 ∷ []

-- `|       0        5    1  .  1   visit`
abbrev row_of_0 : List ℕ
row_of_0 = 124 ∷ 32 ∷ 32 ∷ 32 ∷ 32 ∷ 32 ∷ 32 ∷ 32 ∷ 48 ∷ 32 ∷ 32 ∷ 32 ∷ 32 ∷ 32 ∷ 32 ∷ 32 ∷ 32 ∷ 53 ∷ 32 ∷ 32 ∷ 32 ∷ 32 ∷ 49 ∷ 32 ∷ 32 ∷ 46 ∷ 32 ∷ 32 ∷ 49 ∷ 32 ∷ 32 ∷ 32 ∷ 118 ∷ 105 ∷ 115 ∷ 105 ∷ 116 ∷ 10 ∷ []

-- `|       2        4    1  .  .   to visit`
abbrev row_of_2 : List ℕ
row_of_2 = 124 ∷ 32 ∷ 32 ∷ 32 ∷ 32 ∷ 32 ∷ 32 ∷ 32 ∷ 50 ∷ 32 ∷ 32 ∷ 32 ∷ 32 ∷ 32 ∷ 32 ∷ 32 ∷ 32 ∷ 52 ∷ 32 ∷ 32 ∷ 32 ∷ 32 ∷ 49 ∷ 32 ∷ 32 ∷ 46 ∷ 32 ∷ 32 ∷ 46 ∷ 32 ∷ 32 ∷ 32 ∷ 116 ∷ 111 ∷ 32 ∷ 118 ∷ 105 ∷ 115 ∷ 105 ∷ 116 ∷ 10 ∷ []

-- `|       1        3    .  1  1`
abbrev row_of_1 : List ℕ
row_of_1 = 124 ∷ 32 ∷ 32 ∷ 32 ∷ 32 ∷ 32 ∷ 32 ∷ 32 ∷ 49 ∷ 32 ∷ 32 ∷ 32 ∷ 32 ∷ 32 ∷ 32 ∷ 32 ∷ 32 ∷ 51 ∷ 32 ∷ 32 ∷ 32 ∷ 32 ∷ 46 ∷ 32 ∷ 32 ∷ 49 ∷ 32 ∷ 32 ∷ 49 ∷ 10 ∷ []

-- order 3, P 1 and column 2 (held as one more); the rows 0, 2, 1 with the weights 5, 4, 3; slot 0 sends, and slot 2 is still to visit
pub sample : page_text 3 1 3 (0 ∷ 2 ∷ 1 ∷ []) (λ i. get_or (5 ∷ 3 ∷ 4 ∷ []) i 0) 0 (λ i. eqb i 2) ≡ first ++ (columns ++ (row_of_0 ++ (row_of_2 ++ row_of_1)))
unfolding bit trailing trailing_in term digits_by term_shown down row_lines
sample = refl
