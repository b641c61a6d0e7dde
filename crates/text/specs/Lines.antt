-- The lines of a text: the bytes between line feeds.
use Rattle.std.specs.Prelude.{cond, List, [], ◌∷◌, ℕ, ◌+◌, min, eqb, length, drop}

-- the first line, without its line feed
unfoldable pub line_of : List ℕ → List ℕ
line_of [] = []
line_of (c ∷ cs) = let later = line_of cs in cond (eqb c 10) [] (c ∷ later)

-- what follows the first line and its line feed
unfoldable pub after_line : List ℕ → List ℕ
after_line [] = []
after_line (c ∷ cs) = let later = after_line cs in cond (eqb c 10) cs later

-- c in front of the first line
abbrev pub onto : ℕ → List (List ℕ) → List (List ℕ)
onto c [] = (c ∷ []) ∷ []
onto c (l ∷ ls) = (c ∷ l) ∷ ls

-- "one command a line"; "A last line without a line feed counts if it isn't empty."
unfoldable pub lines_of : List ℕ → List (List ℕ)
lines_of [] = []
lines_of (c ∷ cs) = cond (eqb c 10) ([] ∷ lines_of cs) (onto c (lines_of cs))

-- the line at a place of the text, and the place where it ends: of its line feed, or the text's end
abbrev pub line_at : List ℕ → ℕ → List ℕ
line_at s at = line_of (drop at s)

abbrev pub line_end : List ℕ → ℕ → ℕ
line_end s at = at + length (line_at s at)

-- the place after the line and its line feed
abbrev pub line_after : List ℕ → ℕ → ℕ
line_after s at = min (line_end s at + 1) (length s)
