-- Totals of a run: the difference of two totals is the sum between them, and eight totals side by side give each of them.
use Rattle.std.proofs.Common.{◌≡◌, ℕ, zero, suc, ◌+◌, ◌-◌, ◌*◌, ◌/◌, ◌%◌, ◌<◌, ◌≤◌, Bool, true, false, ◌&&◌, eqb, ltb, leb, List, length, get_or, set, sym, refl, ap, ◌∙◌, add-zero, add-suc, zero-add, mul-suc, add-one, arith, length-set, get_or-set_other, get_or-set_same, ltb-false, ltb-true, eq-eqb, ne_eqb, eqb-true, leb-true}
use native.Mathlib.Nat.{div-add-mod, mod-add-mod, add-mul-mod_self_left}
use Rattle.lists.proofs.SlotsLaws.{if_eq}
use Rattle.memory.specs.Reading.{waiting_at, first_at, bytes_at}
use Rattle.soundness.specs.Notes.{length_at, sum_of, bytes_rule, sums_rule, idle_rule, between_rule, Strided, Ended, Counted}
use Rattle.soundness.specs.Check.{all_below, length_rule, lengths_rule}
use Rattle.lists.proofs.TestLaws.{same_bool, and-true, true-and}
use Rattle.soundness.proofs.CheckTurns.{all-at, all_intro}

module _ (f : ℕ → ℕ) where
  pub sum-turn : (at n : ℕ) → sum_of f at (n + 1) ≡ sum_of f at n + f (at + n)
  unfolding sum_of
  sum-turn at n = rw (add-one n) refl

  -- the difference of two totals
  pub sum-join : (a n : ℕ) → sum_of f 0 (a + n) ≡ sum_of f 0 a + sum_of f a n
  unfolding sum_of
  sum-join a zero = rw (add-zero a) (omega arith)
  sum-join a (suc n) = rw (add-suc a n) (omega (arith, sum-join a n, ap f (zero-add (a + n))))

  -- a sum that starts one place on has the next value and not the first
  sum-shift : (a n : ℕ) → sum_of f (a + 1) n + f a ≡ sum_of f a n + f (a + n)
  unfolding sum_of
  sum-shift a zero = rw (add-zero a) refl
  sum-shift a (suc n) = let next : f (a + 1 + n) ≡ f (a + suc n) = ap f (omega arith) in omega (arith, sum-shift a n)

  pub sum-most : (m a n : ℕ) → ((p : ℕ) → p < a + n → f p ≤ m) → sum_of f a n ≤ m * n
  unfolding sum_of
  sum-most m a zero h = omega arith
  sum-most m a (suc n) h =
      let last : f (a + n) ≤ m = h (a + n) (omega arith) in
      let less : sum_of f a n ≤ m * n = sum-most m a n (λ p l. h p (omega arith)) in
      more (sum_of f a n) (m * n) (f (a + n)) m (m * suc n) less last (mul-suc m n)
    where
      more : (x y z w t : ℕ) → x ≤ y → z ≤ w → t ≡ y + w → x + z ≤ t
      more x y z w t h k e = omega arith

-- the total before place e is the sum of the eight that stand from e on
pub strided_total : (f : ℕ → ℕ) (n : ℕ) (v : List ℕ) → Strided f n v → (e : ℕ) → e ≤ n
    → sum_of (λ i. get_or v i 0) e 8 % 65536 ≡ sum_of f 0 e % 65536
unfolding sum_of
strided_total f n v h zero l =
    let s = h.starts in
    omega (arith, s 0 (omega arith), s 1 (omega arith), s 2 (omega arith), s 3 (omega arith), s 4 (omega arith), s 5 (omega arith), s 6 (omega arith), s 7 (omega arith))
strided_total f n v h (suc e) l =
    let g : ℕ → ℕ = λ i. get_or v i 0 in
    let before : sum_of g e 8 % 65536 ≡ sum_of f 0 e % 65536 = strided_total f n v h e (omega arith) in
    let shift : sum_of g (e + 1) 8 + g e ≡ sum_of g e 8 + g (e + 8) = sum-shift g e 8 in
    let step : g (e + 8) ≡ (g e + f e) % 65536 = h.steps e (omega arith) in
    rw (← add-one e, zero-add e) (moved (sum_of g (e + 1) 8) (sum_of g e 8) (g e) (g (e + 8)) (f e) (sum_of f 0 e) before shift step)
  where
    moved : (x y a c d t : ℕ) → y % 65536 ≡ t % 65536 → x + a ≡ y + c → c ≡ (a + d) % 65536 → x % 65536 ≡ (t + d) % 65536
    moved x y a c d t p q r =
        sym (add-mul-mod_self_left x 65536 (t / 65536 + (a + d) / 65536))
        ∙ ap (λ (z : ℕ). z % 65536)
        (whole (y / 65536) (t / 65536) ((a + d) / 65536) (t % 65536) x y a c d t
        (ap (λ (z : ℕ). 65536 * (y / 65536) + z) (sym p) ∙ div-add-mod y 65536)
        (div-add-mod t 65536)
        (ap (λ (z : ℕ). 65536 * ((a + d) / 65536) + z) r ∙ div-add-mod (a + d) 65536)
        q)
        ∙ add-mul-mod_self_left (t + d) 65536 (y / 65536)
      where
        whole : (i j k m x y a c d t : ℕ) → 65536 * i + m ≡ y → 65536 * j + m ≡ t → 65536 * k + c ≡ a + d → x + a ≡ y + c
            → x + 65536 * (j + k) ≡ t + d + 65536 * i
        whole i j k m x y a c d t e f g h = omega arith

-- ---- a turn of the totals

pub strided_none : (f : ℕ → ℕ) (v : List ℕ) → 8 ≤ length v → ((i : ℕ) → i < 8 → get_or v i 0 ≡ 0) → Strided f 0 v
strided_none f v l h = record { long = l; starts = h; steps = λ p l. absurd (omega arith) }

pub strided_turn : (f : ℕ → ℕ) (n x : ℕ) (v : List ℕ) → n + 8 < length v → x ≡ (get_or v n 0 + f n) % 65536 → Strided f n v
    → Strided f (n + 1) (set v (n + 8) x)
strided_turn f n x v l e h =
    record {
      long = omega (arith, length-set v (n + 8) x);
      starts = λ i q. get_or-set_other v (n + 8) i x 0 (λ r. omega arith) ∙ h.starts i q;
      steps = λ p q.
          let same : get_or (set v (n + 8) x) p 0 ≡ get_or v p 0 = get_or-set_other v (n + 8) p x 0 (λ r. omega arith) in
          if_eq p n
          (λ r. rw (same, r) (get_or-set_same v (n + 8) x 0 (omega arith) ∙ e))
          (λ d. rw same (get_or-set_other v (n + 8) (p + 8) x 0 (λ r. d (omega arith)) ∙ h.steps p (omega arith)));
    }

-- ---- a slot's sum

-- by two totals modulo 65,536
slot_difference : (s t n before behind : ℕ) → s ≤ 64896 → t ≡ n + s → before ≡ n % 65536 → behind ≡ t % 65536 → (behind + (65536 - before)) % 65536 ≡ s
slot_difference s t n before behind h e p q = omega arith

pub first-turn : (b : List ℕ) (i : ℕ) → first_at b (i + 1) ≡ first_at b i + waiting_at b i
unfolding first_at
first-turn b i = rw (add-one i) refl

pub first-le : (b : List ℕ) (i n : ℕ) → first_at b i ≤ first_at b (i + n)
unfolding first_at
first-le b i zero = rw (add-zero i) (omega arith)
first-le b i (suc n) = rw (add-suc i n) (omega (arith, first-le b i n))

pub first-within : (b : List ℕ) (i : ℕ) → i ≤ 64 → first_at b i ≤ first_at b 64
first-within b i l =
    let e : i + (64 - i) ≡ 64 = omega arith in
    rw e at (first-le b i (64 - i))

-- ---- a turn of the line of totals behind the slots

pub ended-none : (b ends : List ℕ) → get_or ends 0 0 ≡ 0 → Ended b 0 ends
unfolding Ended first_at sum_of
ended-none b ends e zero l = e
ended-none b ends e (suc i) l = absurd (omega arith)

pub ended-turn : (b : List ℕ) (s x : ℕ) (ends : List ℕ) → s + 1 < length ends → x ≡ sum_of (length_at b) 0 (first_at b (s + 1)) % 65536 → Ended b s ends
    → Ended b (s + 1) (set ends (s + 1) x)
unfolding Ended
ended-turn b s x ends l e h i k =
    if_eq i (s + 1)
    (λ r. rw r (get_or-set_same ends (s + 1) x 0 l ∙ e))
    (λ d. get_or-set_other ends (s + 1) i x 0 d ∙ h i (omega arith))

-- ---- wrapped sums

pub eight-turn : (f : ℕ → ℕ) (at k sum r : ℕ) → sum ≡ sum_of f at k % 65536 → r ≡ (sum + f (at + k)) % 65536 → r ≡ sum_of f at (k + 1) % 65536
eight-turn f at k sum r e g =
    g ∙ rw e (mod-add-mod (sum_of f at k) 65536 (f (at + k))) ∙ ap (λ (z : ℕ). z % 65536) (sym (sum-turn f at k))

pub stride_step : (x size n r : ℕ) → r ≡ (x + size) % 65536 → size ≡ n → r ≡ (x + n) % 65536
stride_step x size n r e g = rw (← g) e

-- ---- the slots one by one

size-most : (b : List ℕ) (total p : ℕ) → lengths_rule b total ≡ true → p < total → length_at b p ≤ 1014
unfolding lengths_rule
size-most b total p e l =
    leb-true (length_at b p) 1014 (and-true (leb 1 (length_at b p)) (leb (length_at b p) 1014) (all-at total (λ p. length_rule (length_at b p)) e p l)).1

module _ (b : List ℕ) (total : ℕ) (h : Counted b total) where
  -- where records are left, so are slots
  pub slots-left : (s at : ℕ) → s ≤ 64 → at ≡ first_at b s → at < total → s < 64
  slots-left s at l e less =
      if_eq s 64 (λ q. absurd (let end : at ≡ first_at b 64 = e ∙ ap (first_at b) q in omega (arith, h.all))) (λ d. omega arith)

  -- the place of the next slot's first record
  pub first_next : (s at w : ℕ) → s < 64 → at ≡ first_at b s → w ≡ waiting_at b s → (at + w ≡ first_at b (s + 1)) × (at + w ≤ total)
  first_next s at w l e g =
      let next : at + w ≡ first_at b (s + 1) = omega (arith, first-turn b s) in
      (next, omega (arith, first-within b (s + 1) (omega arith), h.all))

  -- the totals before and behind a slot's records differ by its bytes waiting
  pub slot-law : lengths_rule b total ≡ true → (s at w before behind bytes : ℕ) → s < 64 → at ≡ first_at b s → w ≡ waiting_at b s → bytes ≡ bytes_at b s
      → before ≡ sum_of (length_at b) 0 at % 65536 → behind ≡ sum_of (length_at b) 0 (at + w) % 65536
      → eqb ((behind + (65536 - before)) % 65536) bytes ≡ bytes_rule b s
  unfolding bytes_rule
  slot-law short s at w before behind bytes l e g q p r =
      let (next, within) = first_next s at w l e g in
      let most : sum_of (length_at b) at w ≤ 1014 * w = sum-most (length_at b) 1014 at w (λ j k. size-most b total j short (omega arith)) in
      let few : w ≤ 64 = omega (arith, h.room s l) in
      let sum : (behind + (65536 - before)) % 65536 ≡ sum_of (length_at b) at w
      = slot_difference (sum_of (length_at b) at w) (sum_of (length_at b) 0 (at + w)) (sum_of (length_at b) 0 at) before behind (omega arith)
      (sum-join (length_at b) at w) p r in
      rw (sum, q, e, g) (eqb-turn (sum_of (length_at b) (first_at b s) (waiting_at b s)) (bytes_at b s))
    where
      eqb-turn : (x y : ℕ) → eqb x y ≡ eqb y x
      eqb-turn x y =
          same_bool (eqb x y) (eqb y x) (λ e. eq-eqb y x (sym (eqb-true x y e))) (λ e. eq-eqb x y (sym (eqb-true y x e)))

  -- the same of two neighbours in the line of totals
  pub between-law : lengths_rule b total ≡ true → (n : ℕ) (ends : List ℕ) → n ≤ 64 → Ended b n ends → (i : ℕ) → i < n → between_rule b ends i ≡ bytes_rule b i
  unfolding between_rule Ended
  between-law short n ends l e i k =
      slot-law short i (first_at b i) (waiting_at b i) (get_or ends i 0) (get_or ends (i + 1) 0) (bytes_at b i) (omega arith) refl refl refl (e i (omega arith))
      (e (i + 1) (omega arith) ∙ ap (λ (p : ℕ). sum_of (length_at b) 0 p % 65536) (first-turn b i))

  -- a slot in which no record waits
  idle-there : (i : ℕ) → waiting_at b i ≡ 0 → idle_rule b i ≡ bytes_rule b i
  unfolding idle_rule bytes_rule sum_of
  idle-there i z = rw z refl

  idle-right : (i : ℕ) → bytes_rule b i ≡ true → idle_rule b i ≡ true
  unfolding idle_rule
  idle-right i e = if_eq (waiting_at b i) 0 (λ z. idle-there i z ∙ e) (λ d. rw (ne_eqb (waiting_at b i) 0 d) refl)

  -- no record waits in the slots from s on: all slots are right exactly if those before s are, and no byte waits where no record does
  pub slots_end : (s : ℕ) (ok idle : Bool) → s ≤ 64 → total ≤ first_at b s → ok ≡ all_below s (bytes_rule b) → idle ≡ all_below 64 (idle_rule b)
      → (ok && idle) ≡ sums_rule b
  unfolding sums_rule
  slots_end s ok idle l less g r =
      same_bool (ok && idle) (all_below 64 (bytes_rule b))
      (λ e. let (p, q) = and-true ok idle e in all_intro 64 (bytes_rule b) (λ i k. go i k (sym g ∙ p) (sym r ∙ q) (ltb i s) refl))
      (λ e.
      true-and (g ∙ all_intro s (bytes_rule b) (λ i k. all-at 64 (bytes_rule b) e i (omega arith)))
      (r ∙ all_intro 64 (idle_rule b) (λ i k. idle-right i (all-at 64 (bytes_rule b) e i k))))
    where
      none : (i : ℕ) → s ≤ i → i < 64 → waiting_at b i ≡ 0
      none i m k =
          let whole : s + (i - s) ≡ i = omega arith in
          let before : first_at b s ≤ first_at b i = rw whole at (first-le b s (i - s)) in
          omega (arith, first-within b (i + 1) (omega arith), first-turn b i, h.all)

      go : (i : ℕ) → i < 64 → all_below s (bytes_rule b) ≡ true → all_below 64 (idle_rule b) ≡ true → (t : Bool) → ltb i s ≡ t → bytes_rule b i ≡ true
      go i k p q true e = all-at s (bytes_rule b) p i (ltb-true i s e)
      go i k p q false e = sym (idle-there i (none i (ltb-false i s e) k)) ∙ all-at 64 (idle_rule b) q i k
