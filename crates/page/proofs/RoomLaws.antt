-- No page is longer than the room for one: a number has at most ten digits, and a cell three bytes.
use mathlib.Core.Bool.{Bool, true, false, cond}
use mathlib.Core.List.{List, [], ◌∷◌, ◌++◌}
use Prim.Native.Nat.{ℕ, zero, suc, zero-le, ◌+◌, ◌*◌, ◌^◌, ◌≤◌, ◌<◌}
use native.Mathlib.Omega.{arith}
use lib.Dec.{eqb}
use lib.ListN.{length, length-append}
use Rattle.bits.specs.Bit.{bit}
use Rattle.lists.specs.Slots.{occurs}
use Rattle.lists.proofs.SlotsLaws.{occurs-same}
use Rattle.spread.specs.Limits.{columns}
use Rattle.visits.specs.declared.choose.Chosen.{Chosen}
use Rattle.text.specs.Digits.{digits}
use Rattle.text.proofs.DigitLaws.{digits-length, digits-ten}
use Rattle.page.specs.Puts.{gap, aligned}
use Rattle.page.specs.Page.{order_word, position_word, term_word, column_word, or_dash, first_line, down, column_text, columns_line, cell_text, visit_word, to_visit_word, mark, row_start, cells_of, row_lines, line_room}
use Rattle.page.specs.InNumbers.{mark_in, line_in}
use Rattle.page.proofs.PutLaws.{gap_length}

-- ---- pieces

aligned-most : (w m : ℕ) (t : List ℕ) → w ≤ m → length t ≤ m → length (aligned w t) ≤ m
aligned-most w m t h l = omega (arith, length-append (gap w (length t)) t, gap_length w (length t))

dash_most : (n : ℕ) → n < 2 ^ 32 → length (or_dash n) ≤ 10
dash_most zero h = omega arith
dash_most (suc n) h = digits-ten n (omega arith)

column-most : (c n : ℕ) → n < columns → length (column_text c n) ≤ 3
column-most c n h =
    let two : length (digits n) ≤ 2 = digits-length 1 n (omega arith) in
    aligned-most 3 3 (cond (eqb (n + 1) c) (62 ∷ digits n) (digits n)) (omega arith) (go (eqb (n + 1) c) two)
  where
    go : (b : Bool) → length (digits n) ≤ 2 → length (cond b (62 ∷ digits n) (digits n)) ≤ 3
    go true l = omega arith
    go false l = omega arith

down-most : (f : ℕ → List ℕ) (n : ℕ) → ((c : ℕ) → c < n → length (f c) ≤ 3) → length (down f n) ≤ 3 * n
unfolding down
down-most f zero h = zero-le
down-most f (suc n) h =
    let below : length (down f n) ≤ 3 * n = down-most f n (λ c l. h c (omega arith)) in
    omega (arith, below, h n (omega arith), length-append (f n) (down f n))

mark-most : (sends : ℕ) (v : ℕ → Bool) (i : ℕ) → length (mark sends v i) ≤ 11
mark-most sends v i = go (eqb i sends) (v i)
  where
    go : (a b : Bool) → length (cond a visit_word (cond b to_visit_word [])) ≤ 11
    go true b = omega arith
    go false true = omega arith
    go false false = omega arith

-- ---- lines

pub first-most : (k p t c : ℕ) → k < 2 ^ 32 → p < 2 ^ 32 → t < 2 ^ 32 → c < 2 ^ 32 → length (first_line k p t c) ≤ line_room
first-most k p t c hk hp ht hc =
    let a : List ℕ = order_word ++ digits k in
    let b : List ℕ = position_word ++ digits p in
    let d : List ℕ = term_word ++ or_dash t in
    let e : List ℕ = column_word ++ or_dash c in
    omega (
      arith,
      length-append a (b ++ (d ++ (e ++ 10 ∷ []))),
      length-append b (d ++ (e ++ 10 ∷ [])),
      length-append d (e ++ 10 ∷ []),
      length-append e (10 ∷ []),
      digits-ten k hk,
      digits-ten p hp,
      dash_most t ht,
      dash_most c hc,
    )

pub columns-most : (k c : ℕ) → k ≤ columns → length (columns_line k c) ≤ line_room
columns-most k c h =
    let all : length (down (column_text c) k) ≤ 3 * k = down-most (column_text c) k (λ n l. column-most c n (omega arith)) in
    omega (arith, all, length-append (down (column_text c) k) (10 ∷ []))

pub line-most : (f : ℕ → ℕ) (x : Chosen) (i : ℕ) → x.order ≤ columns → i < 2 ^ 32 → f i < 2 ^ 32 → length (line_in f x i) ≤ line_room
line-most f x i k hi hw =
    let slot : List ℕ = aligned 8 (digits i) in
    let weight : List ℕ = aligned 9 (digits (f i)) in
    let cells : List ℕ = cells_of x.order (f i) in
    let m : List ℕ = mark_in x i in
    let few : length cells ≤ 3 * x.order = down-most (λ c. cell_text (bit c (f i))) x.order (λ c l. omega arith) in
    omega (
      arith,
      length-append (row_start i (f i)) (cells ++ (m ++ 10 ∷ [])),
      length-append cells (m ++ 10 ∷ []),
      length-append m (10 ∷ []),
      length-append slot (weight ++ 32 ∷ 32 ∷ []),
      length-append weight (32 ∷ 32 ∷ []),
      aligned-most 8 10 (digits i) (omega arith) (digits-ten i hi),
      aligned-most 9 10 (digits (f i)) (omega arith) (digits-ten (f i) hw),
      few,
      mark-most x.slot (λ j. eqb (bit j x.scan.mask) 1) i,
    )

pub rows-most : (f : ℕ → List ℕ) (rows : List ℕ) → ((i : ℕ) → 1 ≤ occurs i rows → length (f i) ≤ line_room) → length (row_lines f rows) ≤ length rows * line_room
unfolding row_lines
rows-most f [] h = zero-le
rows-most f (i ∷ rows) h =
    let rest : length (row_lines f rows) ≤ length rows * line_room = rows-most f rows (λ j l. h j (omega arith)) in
    omega (arith, rest, h i (omega (arith, occurs-same i rows)), length-append (f i) (row_lines f rows))
