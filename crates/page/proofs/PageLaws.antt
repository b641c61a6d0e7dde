-- The lines of a page, piece by piece.
use mathlib.Core.Path.{◌≡◌, refl, sym, ap, subst, ◌∙◌}
use mathlib.Core.List.{List, [], ◌∷◌, ◌++◌}
use Prim.Native.Nat.{ℕ, zero, suc, ◌+◌, ◌-◌, ◌≤◌, ◌<◌}
use native.Mathlib.Omega.{arith}
use native.Mathlib.Numerals.{add-one}
use lib.ListN.{length, get_or, drop, drop_of_length-le}
use lib.Seq.{drop-cons}
use Rattle.spread.specs.Limits.{columns}
use Rattle.plain.specs.Matrix.{Marked}
use Rattle.plain.proofs.MatrixLaws.{marked-at}
use Rattle.visits.specs.declared.choose.Chosen.{Chosen}
use Rattle.octets.specs.declared.writer.Writer.{Writer}
use Rattle.page.proofs.PutLaws.{Going}
use Rattle.page.specs.Page.{down, cell_text, cells_of, row_line, row_lines}
use Rattle.page.specs.InNumbers.{cells_at, mark_in, line_in}

-- ---- the columns from the highest down

pub down-next : (f : ℕ → List ℕ) (n : ℕ) → 0 < n → down f n ≡ f (n - 1) ++ down f (n - 1)
unfolding down
down-next f zero h = absurd (omega arith)
down-next f (suc n) h = let e : n ≡ suc n - 1 = omega arith in ap (λ (k : ℕ). f k ++ down f k) e

pub down-none : (f : ℕ → List ℕ) (n : ℕ) → n ≤ 0 → down f n ≡ []
unfolding down
down-none f zero h = refl
down-none f (suc n) h = absurd (omega arith)

pub down-same : (f g : ℕ → List ℕ) (n : ℕ) → ((c : ℕ) → c < n → f c ≡ g c) → down f n ≡ down g n
unfolding down
down-same f g zero h = refl
down-same f g (suc n) h = rw (h n (omega arith), down-same f g n (λ c l. h c (omega arith)))

-- ---- the rows in joining order

pub rows_next : (f : ℕ → List ℕ) (rows : List ℕ) (i : ℕ) → i < length rows → row_lines f (drop i rows) ≡ f (get_or rows i 0) ++ row_lines f (drop (i + 1) rows)
unfolding row_lines
rows_next f rows i h = rw (drop-cons rows i 0 h, add-one i)

pub rows_none : (f : ℕ → List ℕ) (rows : List ℕ) (i : ℕ) → length rows ≤ i → row_lines f (drop i rows) ≡ []
unfolding row_lines
rows_none f rows i h = rw (drop_of_length-le rows h)

pub rows_same : (f g : ℕ → List ℕ) (rows : List ℕ) → ((i : ℕ) → f i ≡ g i) → row_lines f rows ≡ row_lines g rows
unfolding row_lines
rows_same f g [] h = refl
rows_same f g (i ∷ rows) h = rw (h i, rows_same f g rows h)

-- the cells of a filled matrix are the bits of the row's weight, so the line put is that of the row
pub line_marked : (f : ℕ → ℕ) (rows : List ℕ) (n : ℕ) (m : List (List ℕ)) (x : Chosen) (r : ℕ) {i w : ℕ} → Marked f rows n m → r < n → x.order ≤ columns
    → i ≡ get_or rows r 0 → w ≡ f (get_or rows r 0) → row_line i w (cells_at m r x.order) (mark_in x i) ≡ line_in f x (get_or rows r 0)
line_marked f rows n m x r marked l k e g =
    let same : cells_at m r x.order ≡ cells_of x.order (f (get_or rows r 0)) =
    down-same _ _ x.order (λ c d. ap cell_text (marked-at f rows n m marked c r (omega arith) l)) in
    rw (same, e, g)

-- the line of the next row is the next piece of what is left to write
pub next-row : {w v : Writer} {whole : List ℕ} (f : ℕ → List ℕ) (rows : List ℕ) (r : ℕ) {line : List ℕ} → r < length rows → line ≡ f (get_or rows r 0)
    → Going w whole (row_lines f (drop r rows)) v → Going w whole (line ++ row_lines f (drop (r + 1) rows)) v
next-row {w} {v} {whole} f rows r {line} l e g =
    subst (λ (t : List ℕ). Going w whole t v) (rows_next f rows r l ∙ ap (λ (t : List ℕ). t ++ row_lines f (drop (r + 1) rows)) (sym e)) g
