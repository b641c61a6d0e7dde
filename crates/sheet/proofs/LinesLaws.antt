-- A row is written at the next place of its column's line; the place is kept if the row stands in the column. So the line is the column, and the lines along a
-- round are its visits.
use Prim.Native.Nat.{ℕ, suc, ◌+◌, ◌-◌, ◌^◌, ◌≤◌, ◌<◌}
use mathlib.Core.Path.{◌≡◌, refl, sym, ◌∙◌}
use mathlib.Core.Logic.{◌⊎◌, inl, inr}
use mathlib.Core.List.{List, [], ◌∷◌, ◌++◌, append_assoc, append-nil}
use native.Mathlib.Numerals.{add-one}
use native.Mathlib.Omega.{arith}
use lib.Dec.{eqb}
use lib.ListN.{length, get_or, take, drop, set, drop_of_length-le}
use lib.Seq.{drop-cons, take-set-le, take-suc-set}
use Rattle.std.specs.Prelude.{Ok, Err}
use Rattle.lists.specs.Slots.{keep_if}
use Rattle.bits.specs.Bit.{bit}
use Rattle.bits.proofs.BitLaws.{bit-cases}
use Rattle.spread.specs.Visits.{column_at}
use Rattle.spread.specs.Round.{order_all, rows_with, visits_from, round_of}
use Rattle.sheet.specs.Matching.{matched}
use Rattle.sheet.proofs.Matching.{found_append, wrong_append}

-- ---- one line

-- the rows of a column from row r on
rows_next : (c r : ℕ) (ws : List ℕ) → r < length ws
    → rows_with c r (drop r ws) ≡ keep_if (eqb (bit c (get_or ws r 0)) 1) r (rows_with c (suc r) (drop (suc r) ws))
unfolding rows_with
rows_next c r ws h = rw (drop-cons ws r 0 h) refl

-- what the line has so far, and what is still to come, are the column
pub line-turn : (c r n : ℕ) (ws line : List ℕ) → r < length ws → n < length line → take n line ++ rows_with c r (drop r ws) ≡ rows_with c 0 ws
    → take (n + bit c (get_or ws r 0)) (set line n r) ++ rows_with c (r + 1) (drop (r + 1) ws) ≡ rows_with c 0 ws
line-turn c r n ws line h l e = rw (add-one r) (go (rows_with c (suc r) (drop (suc r) ws)) (bit-cases c (get_or ws r 0)) (rw (rows_next c r ws h) at e))
  where
    go : (rest : List ℕ) → (bit c (get_or ws r 0) ≡ 0) ⊎ (bit c (get_or ws r 0) ≡ 1)
        → take n line ++ keep_if (eqb (bit c (get_or ws r 0)) 1) r rest ≡ rows_with c 0 ws → take (n + bit c (get_or ws r 0)) (set line n r) ++ rest ≡ rows_with c 0 ws
    go rest (inl b) e = let z : n + 0 ≡ n = omega arith in rw (b, z, take-set-le n line n r (omega arith)) (rw b at e)
    go rest (inr b) e =
        let s : n + 1 ≡ suc n = omega arith in
        rw (b, s, take-suc-set line n r l) (append_assoc (take n line) (r ∷ []) rest ∙ rw b at e)

pub line-end : (c r n : ℕ) (ws line : List ℕ) → length ws ≤ r → take n line ++ rows_with c r (drop r ws) ≡ rows_with c 0 ws → take n line ≡ rows_with c 0 ws
unfolding rows_with
line-end c r n ws line h e = sym (append-nil (take n line)) ∙ rw (drop_of_length-le ws {i = r} h) at e

-- ---- a round

-- the visits that are left where position p comes next
abbrev pub left : ℕ → List ℕ → ℕ → List ℕ
left k ws p = visits_from k ws (p - 1) (2 ^ k - p)

left-next : (k p : ℕ) (ws : List ℕ) → 0 < p → p < 2 ^ k → left k ws p ≡ rows_with (column_at k p) 0 ws ++ left k ws (p + 1)
unfolding visits_from
left-next k p ws h l =
    let more : 2 ^ k - p ≡ suc (2 ^ k - (p + 1)) = omega arith in
    let here : suc (p - 1) ≡ p = omega arith in
    let on : p + 1 - 1 ≡ p = omega arith in
    rw (more, here, on) refl

pub round-begin : (k : ℕ) (rows ws : List ℕ) → k ≡ order_all ws → matched rows 0 (left k ws 1) ≡ matched rows 0 (round_of ws)
unfolding round_of
round-begin k rows ws e = rw e refl

-- the line of the next position's column stands there, or the list is wrong in it
module _ (k p at : ℕ) (rows ws line : List ℕ) (h : 0 < p) (l : p < 2 ^ k) (is : line ≡ rows_with (column_at k p) 0 ws) where
  pub column-goes : (next : ℕ) → Ok next ≡ matched rows at line → matched rows at (left k ws p) ≡ matched rows next (left k ws (p + 1))
  column-goes next e = rw (left-next k p ws h l) (found_append rows (rows_with (column_at k p) 0 ws) (left k ws (p + 1)) at next (rw is at e))

  pub column_stops : (q : ℕ) → Err q ≡ matched rows at line → matched rows at (left k ws p) ≡ Err q
  column_stops q e = rw (left-next k p ws h l) (wrong_append rows (rows_with (column_at k p) 0 ws) (left k ws (p + 1)) at q (rw is at e))

pub round-end : (k p at : ℕ) (rows ws : List ℕ) → 2 ^ k ≤ p → matched rows at (left k ws p) ≡ Ok at
unfolding visits_from matched
round-end k p at rows ws h = let none : 2 ^ k - p ≡ 0 = omega arith in rw none refl
