-- The lines that the checker lays before it walks: one for each column, with the rows of that column in row order.
use Rattle.std.specs.Prelude.{ℕ, ◌<◌, ◌≡◌, List, get_or, take}
use Rattle.spread.specs.Round.{rows_with}
use Rattle.sheet.specs.declared.line.Line.{Line}

-- what stands in a line
abbrev pub rows_of : Line → List ℕ
rows_of l = take l.count l.rows

-- the first k lines are the columns of these weights
abbrev pub Laid : List ℕ → List Line → ℕ → Type 0
Laid ws lines k = (c : ℕ) (other : Line) → c < k → rows_of (get_or lines c other) ≡ rows_with c 0 ws
