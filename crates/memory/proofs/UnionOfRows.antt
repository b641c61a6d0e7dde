-- The union taken slot by slot is the rows': both have the bits of every slot in which records wait, and no other.
use Prim.Native.Nat.{ℕ, zero, suc, ◌+◌, ◌≤◌, ◌<◌}
use mathlib.Core.Path.{◌≡◌, refl, sym, ap, ◌∙◌}
use mathlib.Core.Bool.{Bool, true, false, not}
use mathlib.Core.List.{List, [], ◌∷◌}
use mathlib.Core.Logic.{⊎_elim}
use native.Mathlib.Omega.{arith}
use native.Mathlib.Nat.{le_antisymm, not-suc-le-zero, le_of_suc-le-suc, eq-or-lt_of_le}
use native.Mathlib.Numerals.{add-one}
use lib.Bits.{bit_or}
use lib.Dec.{leb, eqb}
use lib.ListN.{length}
use borrow.Author.Tests.{ne_eqb, leb-true, leb-false}
use Rattle.bits.specs.Bit.{bit}
use Rattle.bits.proofs.BitLaws.{bit-none}
use Rattle.bits.proofs.UnionLaws.{bit-or, same_bits}
use Rattle.lists.specs.Slots.{one_if, occurs}
use Rattle.rules.specs.Numbers.{slots}
use Rattle.rules.specs.State.{Record, State, at, weights}
use Rattle.rules.specs.Jump.{union_of}
use Rattle.rules.specs.Facts.{rows_of}
use Rattle.rules.proofs.Union.{union_has, union-only, union_cong}
use Rattle.memory.specs.Names as the
use Rattle.memory.specs.Layout.{bytes_of}
use Rattle.memory.specs.Reading.{number_in, waiting_at, rows_at, state_of}
use Rattle.memory.specs.Fits.{Fits}
use Rattle.memory.specs.Search.{RowsWait, row_weight, union}
use Rattle.memory.proofs.Fitting.{length-bytes}
use Rattle.memory.proofs.Lanes.{waiting-is}
use Rattle.memory.proofs.RoundTrip.{rows_are}
use Rattle.memory.proofs.SearchLaws.{weights-at}

-- ---- one more slot

pub union-turn : (b : List ℕ) (k u w x : ℕ) → u ≡ union b k → w ≡ number_in the.weight b k → x ≡ row_weight (waiting_at b k) w → bit_or u x ≡ union b (k + 1)
unfolding union
union-turn b k u w x e g h = rw (add-one, e, h, g)

module _ (b : List ℕ) (c : ℕ) where
  slot_has : (n i : ℕ) → i < n → 1 ≤ waiting_at b i → bit c (number_in the.weight b i) ≤ bit c (union b n)
  unfolding union
  slot_has zero i l w = absurd (not-suc-le-zero l)
  slot_has (suc n) i l w =
      let both = bit-or c (union b n) (row_weight (waiting_at b n) (number_in the.weight b n)) in
      ⊎_elim
      (λ e.
      let last : row_weight (waiting_at b n) (number_in the.weight b n) ≡ number_in the.weight b i
      = rw (← e, ne_eqb (waiting_at b i) 0 (λ (z : waiting_at b i ≡ 0). omega arith)) in
      omega (arith, both, ap (bit c) last))
      (λ q. omega (arith, both, slot_has n i q w))
      (eq-or-lt_of_le (le_of_suc-le-suc l))

  slots-only : (m n : ℕ) → ((i : ℕ) → i < n → 1 ≤ waiting_at b i → bit c (number_in the.weight b i) ≤ m) → bit c (union b n) ≤ m
  unfolding union
  slots-only m zero h = rw (bit-none c) (omega arith)
  slots-only m (suc n) h =
      rw (bit-or c (union b n) (row_weight (waiting_at b n) (number_in the.weight b n)))
      (omega (arith, slots-only m n (λ i l w. h i (omega arith) w), go (waiting_at b n) refl))
    where
      go : (w : ℕ) → waiting_at b n ≡ w → bit c (row_weight w (number_in the.weight b n)) ≤ m
      go zero e = rw (bit-none c) (omega arith)
      go (suc w) e = rw (ne_eqb (suc w) 0 (λ (z : suc w ≡ 0). omega arith)) (h n (omega arith) (omega arith))

-- ---- all slots, where the rows are those in which records wait

module _ {b : List ℕ} (R : RowsWait b) where
  waits-row : (i : ℕ) → i < slots → 1 ≤ waiting_at b i → 1 ≤ occurs i (rows_at b)
  waits-row i l w = rw (R.row i l, ne_eqb (waiting_at b i) 0 (λ (z : waiting_at b i ≡ 0). omega arith)) (omega arith)

  row-waits : (i : ℕ) → 1 ≤ occurs i (rows_at b) → 1 ≤ waiting_at b i
  row-waits i m = go (waiting_at b i) (sym (R.row i (R.low i m)))
    where
      go : (w : ℕ) → one_if (not (eqb w 0)) ≡ occurs i (rows_at b) → 1 ≤ w
      go zero e = absurd (omega arith)
      go (suc w) e = omega arith

  pub union-is : union b slots ≡ union_of (number_in the.weight b) (rows_at b)
  union-is =
      same_bits (union b slots) (union_of (number_in the.weight b) (rows_at b))
      (λ c.
      le_antisymm
      (slots-only b c (bit c (union_of (number_in the.weight b) (rows_at b))) slots (λ i l w. union_has (number_in the.weight b) c i (rows_at b) (waits-row i l w)))
      (union-only (number_in the.weight b) c (bit c (union b slots)) (rows_at b) (λ r m. slot_has b c slots r (R.low r m) (row-waits r m))))

  pub union-read : union b slots ≡ union_of (weights (state_of b).channels) (state_of b).rows
  unfolding state_of
  union-read =
      union-is ∙ sym (union_cong (weights (state_of b).channels) (number_in the.weight b) (rows_at b) (λ r m. weights-at b r (R.low r m)))

-- ---- the memory of a state is such a one, if the state's rows are such

pub rows_wait : {s : State} → Fits s → ((i : ℕ) → occurs i s.rows ≡ rows_of (at s.channels i).waiting) → RowsWait (bytes_of s)
rows_wait {s} F row =
    record {
      size = length-bytes F;
      row = λ i l. rw (rows_are F, waiting-is F i l) (row i ∙ many (at s.channels i).waiting);
      low = λ i m. low i (rw (rows_are F) at m) (leb slots i) refl;
    }
  where
    many : (rs : List Record) → rows_of rs ≡ one_if (not (eqb (length rs) 0))
    many [] = refl
    many (r ∷ rs) = rw (ne_eqb (suc (length rs)) 0 (λ (e : suc (length rs) ≡ 0). omega arith)) refl

    low : (i : ℕ) → 1 ≤ occurs i s.rows → (t : Bool) → leb slots i ≡ t → i < slots
    low i m true e = absurd (omega (arith, F.below i (leb-true slots i e)))
    low i m false e = leb-false slots i e
