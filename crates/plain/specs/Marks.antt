-- The slots still to be visited, on paper: a mark, 1 or 0, beside each row.
use Rattle.std.specs.Prelude.{ℕ, suc, List, [], ◌∷◌, eqb, get_or, take, Option, ◌==◌}
use Rattle.std.specs.List.{position}
use Rattle.lists.specs.Slots.{keep_if}

-- the rows, in joining order, whose mark is 1: row i has mark f i. (The first of the rows given is row i.)
unfoldable pub marked_from : (ℕ → ℕ) → ℕ → List ℕ → List ℕ
marked_from f i [] = []
marked_from f i (r ∷ rows) = keep_if (eqb (f i) 1) r (marked_from f (suc i) rows)

abbrev pub marked_rows : (ℕ → ℕ) → List ℕ → List ℕ
marked_rows f rows = marked_from f 0 rows

-- the marks as they stand in a list: mark i is byte i
abbrev pub marks_in : List ℕ → List ℕ → List ℕ
marks_in m rows = marked_rows (λ i. get_or m i 0) rows

-- which of n rows is the first that has a mark, if one has
abbrev pub first_mark : List ℕ → ℕ → Option ℕ
first_mark m n = position (λ v. v == 1) (take n m)
