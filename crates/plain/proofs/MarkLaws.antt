-- Marks beside the rows: row by row they give the rows that pass a test, and the first mark gives the first of them.
use Prim.Native.Nat.{ℕ, zero, suc, ◌+◌, ◌≤◌, ◌<◌}
use mathlib.Core.Path.{◌≡◌, refl, sym, ap, ap₂, ◌∙◌}
use mathlib.Core.Bool.{Bool, true, false, cond, not, true≢false}
use mathlib.Core.List.{List, [], ◌∷◌}
use native.Mathlib.Omega.{arith}
use native.Mathlib.Nat.{add-zero}
use lib.Dec.{ltb, eqb}
use lib.ListN.{length, get_or, set, take, drop, get_or-eq_default}
use lib.Seq.{drop-cons, get_or-set_same, get_or-set_other}
use Rattle.std.specs.Prelude.{Option, Some, None}
use Rattle.std.specs.Option.{IsSome, is_some}
use Rattle.std.specs.List.{position_or_len}
use Rattle.std.proofs.lemmas.List.{get_or-take, length-take}
use Rattle.std.proofs.lemmas.List.Quantifiers.{position-Some}
use borrow.Author.Tests.{ltb-true, ltb-false}
use Rattle.bits.specs.Bit.{bit, with_bit}
use Rattle.bits.specs.Mask.{mask_of}
use Rattle.lists.specs.Slots.{keep_if, keep}
use Rattle.lists.specs.Tests.{is_empty}
use Rattle.lists.proofs.SlotsLaws.{if_eq}
use Rattle.spread.specs.Limits.{columns}
use Rattle.rules.specs.State.{weights, column_of}
use Rattle.memory.specs.Reading.{row_count_at, in_mask, state_of}
use Rattle.memory.proofs.SearchLaws.{rows-length}
use Rattle.rules.specs.Next.{noted}
use Rattle.plain.specs.Matrix.{cell, Marked, MatrixOf}
use Rattle.plain.specs.Marks.{marked_from, marked_rows, marks_in, first_mark}
use Rattle.plain.proofs.MatrixLaws.{marked-at}

-- ---- marks, set one after the other

pub set-turn : (m : List ℕ) (g : ℕ → ℕ) (n : ℕ) {v : ℕ} → n < length m → ((i : ℕ) → i < n → get_or m i 0 ≡ g i) → v ≡ g n
    → (i : ℕ) → i < suc n → get_or (set m n v) i 0 ≡ g i
set-turn m g n {v} low h e i l =
    if_eq i n (λ q. rw q (get_or-set_same m n v 0 low ∙ e)) (λ d. get_or-set_other m n i v 0 d ∙ h i (omega (arith, d)))

-- ---- which rows have a mark

-- marks that say whether a row passes a test give the rows that pass
from_test : (f : ℕ → ℕ) (p : ℕ → Bool) (i : ℕ) (rows : List ℕ) → ((j : ℕ) → j < length rows → eqb (f (i + j)) 1 ≡ p (get_or rows j 0))
    → marked_from f i rows ≡ keep p rows
unfolding marked_from
from_test f p i [] h = refl
from_test f p i (r ∷ rows) h =
    ap₂ (λ (b : Bool) (xs : List ℕ). keep_if b r xs) (ap (λ (k : ℕ). eqb (f k) 1) (sym (add-zero i)) ∙ h 0 (omega arith))
    (from_test f p (suc i) rows (λ j l. ap (λ (k : ℕ). eqb (f k) 1) (omega arith) ∙ h (suc j) (omega arith)))

marks_test : (m : List ℕ) (p : ℕ → Bool) (rows : List ℕ) → ((j : ℕ) → j < length rows → eqb (get_or m j 0) 1 ≡ p (get_or rows j 0)) → marks_in m rows ≡ keep p rows
marks_test m p rows h = from_test (λ i. get_or m i 0) p 0 rows (λ j l. ap (λ (k : ℕ). eqb (get_or m k 0) 1) (omega arith) ∙ h j l)

-- the marks of a mask, and those of a column
pub marks_mask : (m rows : List ℕ) (mask : ℕ) → ((j : ℕ) → j < length rows → get_or m j 0 ≡ bit (get_or rows j 0) mask) → marks_in m rows ≡ in_mask mask rows
marks_mask m rows mask h = marks_test m (λ r. eqb (bit r mask) 1) rows (λ j l. ap (λ (v : ℕ). eqb v 1) (h j l))

pub marks_column : (f : ℕ → ℕ) (rows m : List ℕ) (x : List (List ℕ)) (n c : ℕ) → length rows ≡ n → Marked f rows n x → c < columns
    → ((r : ℕ) → r < n → get_or m r 0 ≡ cell x c r) → marks_in m rows ≡ column_of f rows c
unfolding column_of
marks_column f rows m x n c count marked low h =
    marks_test m (λ r. eqb (bit c (f r)) 1) rows
    (λ j l. ap (λ (v : ℕ). eqb v 1) (h j (omega arith) ∙ marked-at f rows n x marked c j low (omega arith)))

-- of a memory: a column of its matrix is its own marks
pub column_marks : (b : List ℕ) (x : List (List ℕ)) {c : ℕ} → MatrixOf b x → c < columns
    → marks_in (get_or x c []) (state_of b).rows ≡ column_of (weights (state_of b).channels) (state_of b).rows c
column_marks b x {c} matrix low =
    marks_column (weights (state_of b).channels) (state_of b).rows (get_or x c []) x (row_count_at b) c (rows-length b) matrix low (λ r l. refl)

-- ---- one row after the other

pub from_step : (f : ℕ → ℕ) (rows : List ℕ) (i : ℕ) → i < length rows
    → marked_from f i (drop i rows) ≡ keep_if (eqb (f i) 1) (get_or rows i 0) (marked_from f (suc i) (drop (suc i) rows))
unfolding marked_from
from_step f rows i h = rw (drop-cons rows i 0 h)

end-from : (f : ℕ → ℕ) (k : ℕ) (rows : List ℕ) (i : ℕ) → length rows ≤ i → marked_from f k (drop i rows) ≡ []
unfolding marked_from
end-from f k [] zero h = refl
end-from f k [] (suc i) h = refl
end-from f k (r ∷ rows) zero h = absurd (omega arith)
end-from f k (r ∷ rows) (suc i) h = end-from f k rows i (omega arith)

pub from_end : (f : ℕ → ℕ) (rows : List ℕ) (i : ℕ) → length rows ≤ i → marked_from f i (drop i rows) ≡ []
from_end f rows i h = end-from f i rows i h

-- ---- the mask of the rows that have a mark, from the last to the first

mask-kept : (b : Bool) (x : ℕ) (xs : List ℕ) → mask_of (keep_if b x xs) ≡ cond b (with_bit x (mask_of xs)) (mask_of xs)
unfolding mask_of
mask-kept true x xs = refl
mask-kept false x xs = refl

pub mask-none-left : (m rows : List ℕ) (n : ℕ) → length rows ≡ n → mask_of (marked_from (λ i. get_or m i 0) n (drop n rows)) ≡ 0
unfolding mask_of
mask-none-left m rows n e = ap mask_of (from_end (λ i. get_or m i 0) rows n (omega arith))

-- with row i's mark v and slot r, x is the mask after it, from the mask y before it
pub mask-turn : (m rows : List ℕ) (i : ℕ) {r x y : ℕ} → i < length rows → r ≡ get_or rows i 0 → y ≡ mask_of (marked_from (λ i. get_or m i 0) (suc i) (drop (suc i) rows))
    → x ≡ cond (eqb (get_or m i 0) 1) (with_bit r y) y → x ≡ mask_of (marked_from (λ i. get_or m i 0) i (drop i rows))
mask-turn m rows i {r} {x} {y} h slot before after =
    let f : ℕ → ℕ = λ i. get_or m i 0 in
    after ∙ rw (slot, before) (sym (mask-kept (eqb (get_or m i 0) 1) (get_or rows i 0) (marked_from f (suc i) (drop (suc i) rows)))) ∙ ap mask_of (sym (from_step f rows i h))

-- ---- the first mark

passed : (f : ℕ → ℕ) (rows : List ℕ) (i : ℕ) → i ≤ length rows → ((j : ℕ) → j < i → eqb (f j) 1 ≡ false) → marked_rows f rows ≡ marked_from f i (drop i rows)
passed f rows zero l h = refl
passed f rows (suc i) l h =
    passed f rows i (omega arith) (λ j m. h j (omega arith))
    ∙ from_step f rows i (omega arith)
    ∙ ap (λ (b : Bool). keep_if b (get_or rows i 0) (marked_from f (suc i) (drop (suc i) rows))) (h i (omega arith))

from-same : (f g : ℕ → ℕ) (i : ℕ) (rows : List ℕ) → ((j : ℕ) → i ≤ j → f j ≡ g j) → marked_from f i rows ≡ marked_from g i rows
unfolding marked_from
from-same f g i [] h = refl
from-same f g i (r ∷ rows) h =
    ap₂ (λ (b : Bool) (xs : List ℕ). keep_if b r xs) (ap (λ (v : ℕ). eqb v 1) (h i (omega arith))) (from-same f g (suc i) rows (λ j l. h j (omega arith)))

-- r is the first of n rows that has a mark, or none has
First : List ℕ → ℕ → Option ℕ → Type 0
First m n (Some r) = (r < n) × (eqb (get_or m r 0) 1 ≡ true) × ((i : ℕ) → i < r → eqb (get_or m i 0) 1 ≡ false)
First m n None = (i : ℕ) → i < n → eqb (get_or m i 0) 1 ≡ false

unpassed : (p : ℕ → Bool) (xs : List ℕ) → length xs ≤ position_or_len p xs → (i : ℕ) → i < length xs → p (get_or xs i 0) ≡ false
unpassed p [] l i h = absurd (omega arith)
unpassed p (x ∷ xs) l i h = go (unpassed p xs) (p x) refl l i h
  where
    go : (length xs ≤ position_or_len p xs → (i : ℕ) → i < length xs → p (get_or xs i 0) ≡ false) → (t : Bool) → p x ≡ t → suc (length xs) ≤ cond (not t) (1 + position_or_len p xs) 0 → (i : ℕ) → i < suc (length xs) → p (get_or (x ∷ xs) i 0) ≡ false
    go rest true e l i h = absurd (omega arith)
    go rest false e l zero h = e
    go rest false e l (suc i) h = rest (omega arith) i (omega arith)

-- n rows; and where there is no mark beside one, that is a 0
module _ (m rows : List ℕ) (n : ℕ) (count : length rows ≡ n) where
  abbrev mark : ℕ → ℕ
  mark i = get_or m i 0

  abbrev near : List ℕ
  near = take n m

  kept : (i : ℕ) → i < n → get_or near i 0 ≡ mark i
  kept i l = get_or-take n m i 0 l

  first_found : (o : Option ℕ) → o ≡ first_mark m n → First m n o
  unfolding First
  first_found (Some r) e =
      let (l, here, before) = position-Some (λ v. eqb v 1) near r 0 (sym e) in
      let low : r < n = omega (arith, length-take n m) in
      (low, ap (λ (v : ℕ). eqb v 1) (sym (kept r low)) ∙ here, λ i h. ap (λ (v : ℕ). eqb v 1) (sym (kept i (omega arith))) ∙ before i h)
  first_found None e =
      λ i h. go i h (ltb i (length near)) refl
    where
      past : length near ≤ position_or_len (λ v. eqb v 1) near
      past = go (ltb (position_or_len (λ v. eqb v 1) near) (length near)) refl
        where
          go : (t : Bool) → ltb (position_or_len (λ v. eqb v 1) near) (length near) ≡ t → length near ≤ position_or_len (λ v. eqb v 1) near
          go true q = let z : ◌≡◌ {A = Option ℕ} None (Some (position_or_len (λ v. eqb v 1) near)) = e ∙ rw q refl in absurd (let w : ◌≡◌ {A = ℕ} 0 1 = cc in omega arith)
          go false q = ltb-false _ _ q

      go : (i : ℕ) → i < n → (t : Bool) → ltb i (length near) ≡ t → eqb (mark i) 1 ≡ false
      go i h true q = ap (λ (v : ℕ). eqb v 1) (sym (kept i h)) ∙ unpassed (λ v. eqb v 1) near past i (ltb-true _ _ q)
      go i h false q = ap (λ (v : ℕ). eqb v 1) (get_or-eq_default m 0 (omega (arith, ltb-false _ _ q, length-take n m)))

  -- no row has a mark
  pub marks_none : None ≡ first_mark m n → marks_in m rows ≡ []
  unfolding First
  marks_none e = passed mark rows n (omega arith) (first_found None e) ∙ from_end mark rows n (omega arith)

  -- where there are marked rows there is a first mark
  pub some_first : (o : Option ℕ) → o ≡ first_mark m n → is_empty (marks_in m rows) ≡ false → IsSome o
  some_first (Some r) e some-there = refl
  some_first None e some-there = absurd (true≢false (sym (ap is_empty (marks_none e)) ∙ some-there))

  -- the first row with a mark comes first, then the rows marked without it
  pub marks_first : (r : ℕ) → Some r ≡ first_mark m n → (r < n) × (marks_in m rows ≡ get_or rows r 0 ∷ marks_in (set m r 0) rows)
  unfolding First
  marks_first r e =
      let (l, here, before) = first_found (Some r) e in
      let there : r < length m = omega (arith, (position-Some (λ v. eqb v 1) near r 0 (sym e)).0, length-take n m) in
      (l, marks_split r l there here before)
    where
      marks_split : (r : ℕ) → r < n → r < length m → eqb (mark r) 1 ≡ true → ((i : ℕ) → i < r → eqb (mark i) 1 ≡ false) → marks_in m rows ≡ get_or rows r 0 ∷ marks_in (set m r 0) rows
      marks_split r l there here before =
          passed mark rows r (omega arith) before
          ∙ from_step mark rows r (omega arith)
          ∙ ap (λ (b : Bool). keep_if b (get_or rows r 0) (marked_from mark (suc r) (drop (suc r) rows))) here
          ∙ ap (λ (xs : List ℕ). get_or rows r 0 ∷ xs) (from-same mark left (suc r) (drop (suc r) rows) (λ j h. sym (other j (λ e. omega arith))) ∙ sym (passed left rows (suc r) (omega arith) gone))
        where
          left : ℕ → ℕ
          left i = get_or (set m r 0) i 0

          other : (j : ℕ) → (j ≡ r → ⊥) → left j ≡ mark j
          other j d = get_or-set_other m r j 0 0 d

          gone : (j : ℕ) → j < suc r → eqb (left j) 1 ≡ false
          gone j h =
              if_eq j r (λ e. ap (λ (k : ℕ). eqb (left k) 1) e ∙ ap (λ (v : ℕ). eqb v 1) (get_or-set_same m r 0 0 (omega arith)))
              (λ d. ap (λ (v : ℕ). eqb v 1) (other j d) ∙ before j (omega arith))

  -- "When the list is empty the noted column is 0."
  pub noted_some : (o : Option ℕ) → o ≡ first_mark m n → is_some o ≡ true → (c : ℕ) → c ≡ noted (marks_in m rows) c
  noted_some (Some r) e q c = let (l, listed) = marks_first r e in sym (ap (λ (l : List ℕ). noted l c) listed)
  noted_some None e q c = absurd (true≢false (sym q))

  pub noted_none : (o : Option ℕ) → o ≡ first_mark m n → is_some o ≡ false → (c : ℕ) → 0 ≡ noted (marks_in m rows) c
  noted_none (Some r) e q c = absurd (true≢false q)
  noted_none None e q c = sym (ap (λ (l : List ℕ). noted l c) (marks_none e))
