-- What a turn of each loop over the list and its keys adds.
use Rattle.std.proofs.Common.{◌≡◌, ℕ, suc, ◌+◌, ◌-◌, ◌<◌, ◌≤◌, Bool, true, false, not, ◌&&◌, eqb, ltb, leb, List, length, sym, refl, ap, ◌∙◌, add-one, arith, le-ltb, lt-ltb, ne_eqb, eqb-true, le-leb}
use mathlib.Core.Bool.{and-true, and-false, and_assoc}
use borrow.Author.Tests.{eqb-false, lt-leb}
use Rattle.octets.specs.Number.{Bytes}
use Rattle.std.specs.Int.{from_bool}
use Rattle.lists.specs.Slots.{one_if}
use Rattle.rules.specs.Numbers.{slots, listed}
use Rattle.memory.specs.Names as the
use Rattle.memory.specs.Layout.{note_place}
use Rattle.memory.specs.Reading.{bytes_at, listed_at}
use Rattle.fullest.specs.Listing.{slot_at, slots_from}
use Rattle.soundness.specs.Check.{clear}
use Rattle.fullest.specs.Keys.{key, top, falling, above, limit_of, list_rule}
use Rattle.soundness.specs.Notes.{fullest_rule}
use Rattle.fullest.proofs.BytesRead.{bytes_fit}
use Rattle.fullest.proofs.Falls.{occurs-place}
use Rattle.fullest.proofs.FullestLaws.{falling-falls, list_law}
use Rattle.fullest.proofs.MovingLaws.{slots_length}

-- ---- slots at or above a limit

pub one_most : (test : Bool) → from_bool test ≤ 1
one_most true = omega arith
one_most false = omega arith

pub above-turn : (f : ℕ → ℕ) (limit s n : ℕ) (test : Bool) → n ≡ above f limit s → test ≡ leb limit (key f s) → n + from_bool test ≡ above f limit (s + 1)
unfolding above
above-turn f limit s n test e h = rw (add-one s, e, h, from-one (leb limit (key f s))) refl
  where
    from-one : (t : Bool) → from_bool t ≡ one_if t
    from-one true = refl
    from-one false = refl

-- a slot in which some byte waits is one whose key is at least that of the last slot with one byte
pub filled-key : (f : ℕ → ℕ) (s : ℕ) → s < 64 → not (eqb (f s) 0) ≡ leb 64 (key f s)
filled-key f s l = go (eqb (f s) 0) refl
  where
    go : (c : Bool) → eqb (f s) 0 ≡ c → not c ≡ leb 64 (key f s)
    go true e = let z : f s ≡ 0 = eqb-true (f s) 0 e in sym (lt-leb 64 (key f s) (omega arith))
    go false e = sym (le-leb 64 (key f s) (some (eqb-false (f s) 0 e)))
      where
        some : (f s ≡ 0 → ⊥) → 64 ≤ key f s
        some d = omega arith

-- ---- the list in order

more : (n k : ℕ) → k < n → n - k ≡ suc (n - (k + 1))
more n k l = omega arith

-- the test of the slots from k on, opened at the first
open_first : (f : ℕ → ℕ) (b : List ℕ) (last n k : ℕ) → k < n
    → falling f last (slots_from b k (n - k))
    ≡ (ltb (slot_at b k) slots && ((leb slots (key f (slot_at b k)) && ltb (key f (slot_at b k)) last)
    && falling f (key f (slot_at b k)) (slots_from b (k + 1) (n - (k + 1)))))
open_first f b last n k l = rw (more n k l) refl

module _ (b : List ℕ) (n k : ℕ) (ok : Bool) (last : ℕ)
    (inv : falling (bytes_at b) top (slots_from b 0 n) ≡ (ok && falling (bytes_at b) last (slots_from b k (n - k)))) where
  -- a number that is no slot
  pub order-out : {slot : ℕ} → k < n → slot ≡ slot_at b k → 64 ≤ slot → false ≡ falling (bytes_at b) top (slots_from b 0 n)
  order-out {slot} l e h =
      sym
      (inv
      ∙ ap (λ (r : Bool). ok && r) (open_first (bytes_at b) b last n k l ∙ rw (le-ltb (slot_at b k) 64 (omega arith)) refl)
      ∙ and-false ok)

  pub order-turn : {slot x : ℕ} → k < n → slot ≡ slot_at b k → slot < 64 → x ≡ key (bytes_at b) slot
      → falling (bytes_at b) top (slots_from b 0 n) ≡ ((ok && (leb 64 x && ltb x last)) && falling (bytes_at b) x (slots_from b (k + 1) (n - (k + 1))))
  order-turn {slot} {x} l e h g =
      let here : key (bytes_at b) (slot_at b k) ≡ x = ap (key (bytes_at b)) (sym e) ∙ sym g in
      inv
      ∙ ap (λ (r : Bool). ok && r) (open_first (bytes_at b) b last n k l ∙ rw (lt-ltb (slot_at b k) 64 (omega arith), here) refl)
      ∙ sym (and_assoc ok (leb 64 x && ltb x last) (falling (bytes_at b) x (slots_from b (k + 1) (n - (k + 1)))))

  pub order-end : k ≡ n → ok ≡ falling (bytes_at b) top (slots_from b 0 n)
  order-end e =
      let none : n - k ≡ 0 = omega arith in
      sym (inv ∙ rw none (and-true ok))

-- ---- the limit

pub last-slot : (b : List ℕ) (n : ℕ) → n ≡ 5 → falling (bytes_at b) top (slots_from b 0 n) ≡ true → slot_at b 4 < 64
last-slot b n e h =
    let five : falling (bytes_at b) top (slots_from b 0 5) ≡ true = rw e at h in
    ((falling-falls (bytes_at b) top (slots_from b 0 5) five).1 (slot_at b 4) (occurs-place (key (bytes_at b)) 4 (slots_from b 0 5) (omega arith))).0

pub limit-five : (b : List ℕ) (n slot x r : ℕ) → n ≡ 5 → slot ≡ slot_at b 4 → x ≡ key (bytes_at b) slot → r ≡ above (bytes_at b) x slots
    → r ≡ above (bytes_at b) (limit_of (bytes_at b) (slots_from b 0 n)) slots
limit-five b n slot x r e g h k =
    let same : x ≡ limit_of (bytes_at b) (slots_from b 0 n) = rw (e, h, g) refl in
    k ∙ ap (λ (t : ℕ). above (bytes_at b) t slots) same

pub limit-fewer : (b : List ℕ) (n r : ℕ) → n < 5 → r ≡ above (bytes_at b) slots slots → r ≡ above (bytes_at b) (limit_of (bytes_at b) (slots_from b 0 n)) slots
limit-fewer b n r l k =
    let same : slots ≡ limit_of (bytes_at b) (slots_from b 0 n) = rw (slots_length b 0 n, ne_eqb n 5 (λ e. omega arith)) refl in
    k ∙ ap (λ (t : ℕ). above (bytes_at b) t slots) same

-- ---- the whole

module _ (b : List ℕ) (fits : Bytes b) (n : ℕ) (e : n ≡ listed_at b) where
  -- more than five
  pub too_many : listed < n → false ≡ fullest_rule b
  unfolding fullest_rule
  too_many h = rw (lt-leb (listed_at b) listed (omega arith)) refl

  -- something stands behind the list
  pub not-clear : n ≤ listed → clear b (note_place the.fullest + n) (listed - n) ≡ false → false ≡ fullest_rule b
  unfolding fullest_rule
  not-clear h q = rw (le-leb (listed_at b) listed (omega arith), ← e, q) refl

  -- otherwise the test of the list is all
  pub list_passed : n ≤ listed → clear b (note_place the.fullest + n) (listed - n) ≡ true → list_rule (bytes_at b) (slots_from b 0 n) ≡ fullest_rule b
  unfolding fullest_rule
  list_passed h q =
      list_law (bytes_at b) (λ i. bytes_fit b i fits) (slots_from b 0 n) (omega (arith, slots_length b 0 n))
      ∙ rw (le-leb (listed_at b) listed (omega arith), ← e, q) refl

  pub not_in_order : n ≤ listed → clear b (note_place the.fullest + n) (listed - n) ≡ true → falling (bytes_at b) top (slots_from b 0 n) ≡ false → false ≡ fullest_rule b
  not_in_order h q r = sym (sym (list_passed h q) ∙ rw r refl)

  pub counted : (count : ℕ) → n ≤ listed → clear b (note_place the.fullest + n) (listed - n) ≡ true → falling (bytes_at b) top (slots_from b 0 n) ≡ true
      → count ≡ above (bytes_at b) (limit_of (bytes_at b) (slots_from b 0 n)) slots → eqb count n ≡ fullest_rule b
  counted count h q r k =
      let tested : list_rule (bytes_at b) (slots_from b 0 n) ≡ eqb count (length (slots_from b 0 n)) = rw (r, ← k) refl in
      ap (eqb count) (sym (slots_length b 0 n)) ∙ sym tested ∙ list_passed h q
