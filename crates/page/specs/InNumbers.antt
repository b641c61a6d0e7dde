-- The page from the numbers that the code holds: the scan point before the call, and the choice with its mask.
use Rattle.std.specs.Prelude.{cond, ◌≡◌, List, ◌++◌, ℕ, suc, ◌^◌, ◌≤◌, ◌<◌, eqb}
use Rattle.bits.specs.Bit.{bit}
use Rattle.spread.specs.Limits.{columns}
use Rattle.spread.specs.Visits.{column_at}
use Rattle.memory.specs.declared.point.Scan.{Scan}
use Rattle.plain.specs.Matrix.{cell}
use Rattle.visits.specs.declared.choose.Chosen.{Chosen}
use Rattle.page.specs.Page.{term_shown, first_line, down, columns_line, cell_text, mark, row_line, cells_of, row_lines}

-- the cells of row r of the matrix m, in a round of order k
abbrev pub cells_at : List (List ℕ) → ℕ → ℕ → List ℕ
cells_at m r k = down (λ c. cell_text (cell m c r)) k

-- the mark of slot i, and its line, f giving its weight
abbrev pub mark_in : Chosen → ℕ → List ℕ
mark_in x i = mark x.slot (λ j. eqb (bit j x.scan.mask) 1) i

abbrev pub line_in : (ℕ → ℕ) → Chosen → ℕ → List ℕ
line_in f x i = row_line i (f i) (cells_of x.order (f i)) (mark_in x i)

-- one more than the column being scanned, and 0 for none
unfoldable pub scanned_in : Scan → Chosen → ℕ
scanned_in p x = cond (eqb x.terms 0) (cond (eqb p.mask 0) 0 (suc p.column)) (suc (column_at x.order x.scan.position))

-- where a term was taken it has a column: P is one of the order's positions
pub record Taken (x : Chosen) : Type 0 where
  pub order-low : x.order ≤ columns
  pub position-low : x.scan.position < 2 ^ x.order
  pub position_some : (x.terms ≡ 0 → ⊥) → 0 < x.scan.position

-- the lines over the rows, and the page
abbrev pub head_in : Scan → Chosen → List ℕ
head_in p x = first_line x.order x.scan.position (term_shown x.scan.position) (scanned_in p x) ++ columns_line x.order (scanned_in p x)

abbrev pub page_in : (ℕ → ℕ) → List ℕ → Scan → Chosen → List ℕ
page_in f rows p x = head_in p x ++ row_lines (line_in f x) rows
