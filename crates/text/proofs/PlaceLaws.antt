-- Reading at a place of a text: what is left after a number is the text from the place after it on.
use mathlib.Core.Path.{◌≡◌, refl, sym, ap, subst, ◌∙◌}
use mathlib.Core.Bool.{true, false}
use mathlib.Core.List.{List, ◌∷◌, ◌++◌, append_assoc}
use Rattle.std.specs.Prelude.{Option, Some, None}
use Prim.Native.Nat.{ℕ, ◌+◌, ◌-◌, ◌≤◌, ◌<◌}
use native.Mathlib.Numerals.{add-one}
use native.Mathlib.Omega.{arith}
use lib.ListN.{length, get_or, take, drop, length-append, length-drop, take-append-drop, drop_of_length-le}
use lib.Seq.{drop-cons, drop_at}
use lib.Dec.{ltb}
use borrow.Author.Tests.{ltb-true, ltb-false, eq-eqb, ne_eqb}
use Rattle.text.specs.Digits.{largest, digits, Front, number, nothing, is_digit, more, digits_off, zero_off, number_off, spaced_off}
use Rattle.text.specs.Places.{placed, decimal_at, spaced_at}
use Rattle.text.proofs.NumberLaws.{Stops, digits_off_stops, digits_off-digit, digits_off_over, zero_off_stops, number_off-other, number_off-zero, number_off-digit, spaced-written}

pub drop_here : (s : List ℕ) (i : ℕ) → i < length s → drop i s ≡ get_or s i 0 ∷ drop (i + 1) s
drop_here s i h = drop-cons s i 0 h ∙ ap (λ (n : ℕ). get_or s i 0 ∷ drop n s) (sym (add-one i))

module _ (s : List ℕ) (i : ℕ) where
  pub placed-here : (v n : ℕ) → n ≡ i → i ≤ length s → Some (v, n) ≡ placed (length s) (number v (drop i s))
  placed-here v n e h = ap (λ (n : ℕ). Some (v, n)) (omega (arith, length-drop i s))

  pub stops_end : length s ≤ i → Stops (drop i s)
  stops_end h = subst Stops (sym (drop_of_length-le s h)) tt

  pub stops_here : i < length s → is_digit (get_or s i 0) ≡ false → Stops (drop i s)
  stops_here h d = subst Stops (sym (drop_here s i h)) d

  -- ---- The digits, at a place.
  pub digits-stop : (v n : ℕ) → n ≡ i → i ≤ length s → Stops (drop i s) → Some (v, n) ≡ placed (length s) (digits_off v (drop i s))
  digits-stop v n e h d = placed-here v n e h ∙ ap (placed (length s)) (sym (digits_off_stops v (drop i s) d))

  pub digits_over : (v : ℕ) → i < length s → is_digit (get_or s i 0) ≡ true → largest < more v (get_or s i 0) → nothing ≡ digits_off v (drop i s)
  digits_over v h d g = sym (ap (digits_off v) (drop_here s i h) ∙ digits_off_over v (get_or s i 0) (drop (i + 1) s) d g)

  pub digits-on : (v w : ℕ) → i < length s → is_digit (get_or s i 0) ≡ true → w ≡ more v (get_or s i 0) → w ≤ largest → digits_off w (drop (i + 1) s) ≡ digits_off v (drop i s)
  digits-on v w h d e g = rw e (sym (ap (digits_off v) (drop_here s i h) ∙ digits_off-digit v (get_or s i 0) (drop (i + 1) s) d (omega arith)))

-- ---- The byte c stands at the place.

module _ (s : List ℕ) (i c d : ℕ) (within : true ≡ ltb i (length s)) (is : c ≡ get_or s i d) where
  here : drop i s ≡ c ∷ drop (i + 1) s
  here = drop-cons s i d (ltb-true i (length s) (sym within)) ∙ rw (sym is, add-one i)

  inside : i ≤ length s
  inside = let h : i < length s = ltb-true i (length s) (sym within) in omega arith

  -- after a 0 no digit follows
  pub zero-digit : is_digit c ≡ true → None ≡ placed (length s) (zero_off (drop i s))
  zero-digit e = rw (here, e)

  pub zero-other : is_digit c ≡ false → Some (0, i) ≡ placed (length s) (zero_off (drop i s))
  zero-other e = placed-here s i 0 i refl inside ∙ ap (placed (length s)) (sym (zero_off_stops (drop i s) (subst Stops (sym here) e)))

  pub number-other : is_digit c ≡ false → None ≡ decimal_at s i
  number-other e = sym (ap (placed (length s)) (ap number_off here ∙ number_off-other c (drop (i + 1) s) e))

  pub number-zero : c ≡ 48 → placed (length s) (zero_off (drop (i + 1) s)) ≡ decimal_at s i
  number-zero e = sym (ap (placed (length s)) (ap number_off here ∙ ap (λ (x : ℕ). number_off (x ∷ drop (i + 1) s)) e ∙ number_off-zero (drop (i + 1) s)))

  pub number_digits : is_digit c ≡ true → (c ≡ 48 → ⊥) → placed (length s) (digits_off (c - 48) (drop (i + 1) s)) ≡ decimal_at s i
  number_digits e h = sym (ap (placed (length s)) (ap number_off here ∙ number_off-digit c (drop (i + 1) s) e h))

  pub spaced-other : (c ≡ 32 → ⊥) → None ≡ spaced_at s i
  unfolding spaced_off
  spaced-other h = rw (here, ne_eqb c 32 h)

  pub spaced-number : c ≡ 32 → decimal_at s (i + 1) ≡ spaced_at s i
  unfolding spaced_off
  spaced-number e = rw (here, eq-eqb c 32 e)

-- ---- The text is at its end.

module _ (s : List ℕ) (i : ℕ) (past : false ≡ ltb i (length s)) where
  pub number_past : None ≡ decimal_at s i
  unfolding number_off
  number_past = rw (drop_of_length-le s (ltb-false i (length s) (sym past)))

  pub spaced-past : None ≡ spaced_at s i
  unfolding spaced_off
  spaced-past = rw (drop_of_length-le s (ltb-false i (length s) (sym past)))

-- ---- What the code's answer says of the text: the number, and what follows it from the place on.

-- what follows p at a place is the text from the place past p on
rest-place : (s p rest : List ℕ) (at : ℕ) → drop at s ≡ p ++ rest → (drop (length s - length rest) s ≡ rest) × (length s - length rest ≤ length s)
rest-place s p rest at e =
    let whole : s ≡ (take at s ++ p) ++ rest = sym (take-append-drop at s) ∙ ap (λ (l : List ℕ). take at s ++ l) e ∙ sym (append_assoc (take at s) p rest) in
    let size : length (take at s ++ p) ≡ length s - length rest = omega (arith, ap length whole ∙ length-append (take at s ++ p) rest) in
    (ap (drop (length s - length rest)) whole ∙ drop_at (take at s ++ p) rest (length s - length rest) size, omega arith)

pub record Told (s : List ℕ) (at v n : ℕ) : Type 0 where
  pub number_is : spaced_off (drop at s) ≡ number v (drop n s)
  pub place : n ≤ length s

-- the answer is one of the two
given : {v n w m : ℕ} → ◌≡◌ {A = Option (ℕ × ℕ)} (Some (v, n)) (Some (w, m)) → (v ≡ w) × (n ≡ m)
given {v} {n} {w} {m} e = let pair : ◌≡◌ {A = ℕ × ℕ} (v, n) (w, m) = cc in (ap (λ (p : ℕ × ℕ). p.0) pair, ap (λ (p : ℕ × ℕ). p.1) pair)

apart : {A : Type 0} {w m : ℕ} → ◌≡◌ {A = Option (ℕ × ℕ)} None (Some (w, m)) → A
apart e = cc

pub told : (s : List ℕ) (at v n : ℕ) → Some (v, n) ≡ spaced_at s at → Told s at v n
told s at v n e = go (spaced_off (drop at s)) refl
  where
    go : (t : Front) → spaced_off (drop at s) ≡ t → Told s at v n
    go (number w rest) h =
        let r = rest-place s (32 ∷ digits w) rest at (spaced-written (drop at s) w rest h).0 in
        let same = given (e ∙ ap (placed (length s)) h) in
        record {
          number_is = h ∙ ap (λ (x : ℕ). number x rest) (sym same.0) ∙ ap (number v) (sym r.0 ∙ ap (λ (k : ℕ). drop k s) (sym same.1));
          place = omega (arith, r.1, same.1);
        }
    go nothing h = apart (sym (e ∙ ap (placed (length s)) h))

pub missing : (s : List ℕ) (at : ℕ) → None ≡ spaced_at s at → spaced_off (drop at s) ≡ nothing
missing s at e = go (spaced_off (drop at s)) refl
  where
    go : (t : Front) → spaced_off (drop at s) ≡ t → spaced_off (drop at s) ≡ nothing
    go (number w rest) h = apart (e ∙ ap (placed (length s)) h)
    go nothing h = h
