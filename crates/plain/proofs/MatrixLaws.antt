-- The matrix filled row by row and cell by cell, and its highest column as the order.
use Prim.Native.Nat.{ℕ, zero, suc, ◌-◌, ◌≤◌, ◌<◌}
use mathlib.Core.Path.{◌≡◌, refl, sym, ap, ◌∙◌}
use mathlib.Core.Bool.{Bool, true, false}
use mathlib.Core.List.{List, [], ◌∷◌}
use mathlib.Core.Logic.{inl, inr}
use native.Mathlib.Omega.{arith}
use lib.Dec.{leb, eqb}
use borrow.Author.Tests.{leb-true, leb-false}
use lib.ListN.{length, get_or, set}
use lib.Seq.{get_or-set_same, get_or-set_other}
use Rattle.bits.specs.Bit.{bit}
use Rattle.bits.specs.Order.{order}
use Rattle.bits.proofs.BitLaws.{bit-cases}
use Rattle.bits.proofs.OrderLaws.{order-zero, order-top, order-above}
use Rattle.lists.specs.Slots.{keep_if, keep}
use Rattle.lists.specs.Tests.{is_empty}
use Rattle.lists.proofs.SlotsLaws.{if_eq}
use Rattle.spread.specs.Limits.{columns}
use Rattle.rules.specs.Numbers.{slots}
use Rattle.rules.specs.State.{weights, order_of, column_of}
use Rattle.memory.specs.Reading.{row_count_at, state_of}
use Rattle.memory.proofs.SearchLaws.{rows-length}
use Rattle.plain.specs.Matrix.{cell, Marked, Top}

-- ---- one cell of a row after the other

-- v is written in the cell of column k and row r
module _ (m : List (List ℕ)) (k r v : ℕ) (size : k < length m) (low : r < length (get_or m k [])) where
  abbrev written : List (List ℕ)
  written = set m k (set (get_or m k []) r v)

  column_same : get_or written k [] ≡ set (get_or m k []) r v
  column_same = get_or-set_same m k (set (get_or m k []) r v) [] size

  pub cell_other : (c s : ℕ) → (s ≡ r → ⊥) → cell written c s ≡ cell m c s
  cell_other c s d =
      if_eq c k (λ e. rw e (ap (λ (l : List ℕ). get_or l s 0) column_same ∙ get_or-set_other (get_or m k []) r s v 0 d))
      (λ n. ap (λ (l : List ℕ). get_or l s 0) (get_or-set_other m k c _ [] n))

  pub cells-turn : (w : ℕ) → v ≡ bit k w → ((c : ℕ) → c < k → cell m c r ≡ bit c w) → (c : ℕ) → c < suc k → cell written c r ≡ bit c w
  cells-turn w e h c l =
      if_eq c k (λ s. rw s (ap (λ (x : List ℕ). get_or x r 0) column_same ∙ get_or-set_same (get_or m k []) r v 0 low ∙ e))
      (λ d. ap (λ (x : List ℕ). get_or x r 0) (get_or-set_other m k c _ [] d) ∙ h c (omega (arith, d)))

-- ---- one row after the other

module _ (f : ℕ → ℕ) (rows : List ℕ) where
  pub marked-none : (m : List (List ℕ)) → Marked f rows 0 m
  unfolding Marked
  marked-none m c r l l' = absurd (omega arith)

  pub marked_turn : (n w : ℕ) (m m' : List (List ℕ)) → n < slots → w ≡ f (get_or rows n 0) → Marked f rows n m → ((c : ℕ) → c < columns → cell m' c n ≡ bit c w)
      → ((c r : ℕ) → r < slots → (r ≡ n → ⊥) → cell m' c r ≡ cell m c r) → Marked f rows (suc n) m'
  unfolding Marked
  marked_turn n w m m' low e h new old c r l l' =
      if_eq r n (λ s. rw s (new c l ∙ ap (bit c) e)) (λ d. old c r (omega arith) d ∙ h c r l (omega (arith, d)))

  pub marked-at : (n : ℕ) (m : List (List ℕ)) → Marked f rows n m → (c r : ℕ) → c < columns → r < n → cell m c r ≡ bit c (f (get_or rows r 0))
  unfolding Marked
  marked-at n m h = h

-- ---- the highest column

-- one more cell of a column is 0
pub zeros-turn : (m : List (List ℕ)) (c n : ℕ) → ((i : ℕ) → i < n → cell m c i ≡ 0) → cell m c n ≡ 0 → (i : ℕ) → i < suc n → cell m c i ≡ 0
zeros-turn m c n h e i l = if_eq i n (λ s. rw s e) (λ d. h i (omega (arith, d)))

-- the columns from k on are empty, and so is the next one below
pub above-turn : (m : List (List ℕ)) (n k : ℕ) → ((c r : ℕ) → suc k ≤ c → c < columns → r < n → cell m c r ≡ 0) → ((r : ℕ) → r < n → cell m k r ≡ 0)
    → (c r : ℕ) → k ≤ c → c < columns → r < n → cell m c r ≡ 0
above-turn m n k h e c r l l' l'' = if_eq c k (λ s. rw s (e r l'')) (λ d. h c r (omega (arith, d)) l' l'')

-- each row's order is at most that of all, and theirs is at most what each row's is
pub order_row : (f : ℕ → ℕ) (rows : List ℕ) (i : ℕ) → i < length rows → order (f (get_or rows i 0)) ≤ order_of f rows
unfolding order_of
order_row f [] i l = absurd (omega arith)
order_row f (r ∷ rs) zero l = omega arith
order_row f (r ∷ rs) (suc i) l = omega (arith, order_row f rs i (omega arith))

pub orders-le : (f : ℕ → ℕ) (rows : List ℕ) (k : ℕ) → ((i : ℕ) → i < length rows → order (f (get_or rows i 0)) ≤ k) → order_of f rows ≤ k
unfolding order_of
orders-le f [] k h = omega arith
orders-le f (r ∷ rs) k h = omega (arith, h 0 (omega arith), orders-le f rs k (λ i l. h (suc i) (omega arith)))

-- a number whose bits are 0 from column k on, and that takes at most columns, takes at most k
low-order : (w k : ℕ) → order w ≤ columns → ((c : ℕ) → k ≤ c → c < columns → bit c w ≡ 0) → order w ≤ k
low-order zero k l h = omega (arith, order-zero)
low-order (suc w) k l h = go (leb (order (suc w)) k) refl
  where
    go : (t : Bool) → leb (order (suc w)) k ≡ t → order (suc w) ≤ k
    go true q = leb-true (order (suc w)) k q
    go false q =
        let more = leb-false (order (suc w)) k q in
        absurd (omega (arith, order-top (suc w) (omega arith), h (order (suc w) - 1) (omega arith) (omega arith)))

-- n is the number of the rows
module _ (f : ℕ → ℕ) (rows : List ℕ) (m : List (List ℕ)) (n k : ℕ) (count : length rows ≡ n) (marked : Marked f rows n m) (most : order_of f rows ≤ columns) (top : Top m n k) where
  top-most : order_of f rows ≤ k
  top-most =
      orders-le f rows k
      (λ i l.
      low-order (f (get_or rows i 0)) k (omega (arith, order_row f rows i l))
      (λ c le lt. sym (marked-at f rows n m marked c i lt (omega arith)) ∙ top.above c i le lt (omega arith)))

  top_least : k ≤ order_of f rows
  top_least = go (leb k (order_of f rows)) refl
    where
      go : (t : Bool) → leb k (order_of f rows) ≡ t → k ≤ order_of f rows
      go true q = leb-true k (order_of f rows) q
      go false q =
          let less = leb-false k (order_of f rows) q in
          let (r, l, some) = top.found (omega arith) in
          absurd
          (some
          (marked-at f rows n m marked (k - 1) r (omega (arith, top.most)) l
          ∙ order-above (f (get_or rows r 0)) (k - 1) (omega (arith, order_row f rows r (omega arith)))))

  -- "one more than the place of the highest one bit in any row's weight" is one more than the highest column that is not empty
  pub top-order : k ≡ order_of f rows
  top-order = omega (arith, top-most, top_least)

-- of a memory: n is the number of rows that the code has read
pub order-found : (b : List ℕ) (m : List (List ℕ)) (n k : ℕ) → n ≡ row_count_at b → Marked (weights (state_of b).channels) (state_of b).rows (row_count_at b) m
    → order_of (weights (state_of b).channels) (state_of b).rows ≤ columns → Top m n k → k ≡ order_of (weights (state_of b).channels) (state_of b).rows
order-found b m n k e marked most top =
    top-order (weights (state_of b).channels) (state_of b).rows m (row_count_at b) k (rows-length b) marked most (rw e at top)

-- ---- whether a column has a row

keep-none : (p : ℕ → Bool) (xs : List ℕ) → ((i : ℕ) → i < length xs → p (get_or xs i 0) ≡ false) → keep p xs ≡ []
keep-none p [] h = refl
keep-none p (x ∷ xs) h = rw (h 0 (omega arith)) (keep-none p xs (λ i l. h (suc i) (omega arith)))

keep_some : (p : ℕ → Bool) (xs : List ℕ) (i : ℕ) → i < length xs → p (get_or xs i 0) ≡ true → is_empty (keep p xs) ≡ false
keep_some p [] i l e = absurd (omega arith)
keep_some p (x ∷ xs) zero l e = rw e refl
keep_some p (x ∷ xs) (suc i) l e = go (p x) (keep_some p xs i (omega arith) e)
  where
    go : (b : Bool) → is_empty (keep p xs) ≡ false → is_empty (keep_if b x (keep p xs)) ≡ false
    go true h = refl
    go false h = h

module _ (f : ℕ → ℕ) (rows : List ℕ) (m : List (List ℕ)) (n c : ℕ) (count : length rows ≡ n) (marked : Marked f rows n m) (low : c < columns) where
  pub column-none : ((i : ℕ) → i < n → cell m c i ≡ 0) → column_of f rows c ≡ []
  unfolding column_of
  column-none h =
      keep-none (λ r. eqb (bit c (f r)) 1) rows
      (λ i l. ap (λ (v : ℕ). eqb v 1) (sym (marked-at f rows n m marked c i low (omega arith)) ∙ h i (omega arith)))

  pub column-some : (i : ℕ) → i < n → (cell m c i ≡ 0 → ⊥) → is_empty (column_of f rows c) ≡ false
  unfolding column_of
  column-some i l d =
      let here = marked-at f rows n m marked c i low l in
      keep_some (λ r. eqb (bit c (f r)) 1) rows i (omega arith)
      (elim (bit-cases c (f (get_or rows i 0))) [ inl z ↦ absurd (d (here ∙ z)) | inr z ↦ ap (λ (v : ℕ). eqb v 1) z ])
