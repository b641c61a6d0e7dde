-- A number is read off a text exactly where its decimal stands at the front.
use mathlib.Core.Path.{◌≡◌, refl, sym, ap, ◌∙◌}
use mathlib.Core.Bool.{Bool, true, false, cond}
use mathlib.Core.List.{List, [], ◌∷◌, ◌++◌, append_assoc}
use Prim.Native.Nat.{ℕ, zero, suc, ◌+◌, ◌-◌, ◌/◌, ◌%◌, ◌≤◌, ◌<◌}
use native.Mathlib.Omega.{arith}
use lib.Arith.{lt_of_le-ne}
use lib.Dec.{leb, eqb}
use borrow.Author.Tests.{leb-true, leb-false, le-leb, lt-leb, ne_eqb, eqb-true, eqb-false}
use Rattle.text.specs.Digits.{largest, digits, number, nothing, is_digit, more, digits_off, zero_off, number_off, spaced_off}
use Rattle.text.proofs.DigitLaws.{digits-one, digits_more, digits-next, by_digits, digit-is, digit-from, digit_to}

-- no digit stands at the front
abbrev pub Stops : List ℕ → Type 0
Stops [] = Unit {0}
Stops (c ∷ cs) = is_digit c ≡ false

-- ---- One byte of the text, by what it is.

pub digits_off_stops : (v : ℕ) (t : List ℕ) → Stops t → digits_off v t ≡ number v t
unfolding digits_off
digits_off_stops v [] h = refl
digits_off_stops v (c ∷ cs) h = rw h

pub digits_off-digit : (v c : ℕ) (cs : List ℕ) → is_digit c ≡ true → more v c ≤ largest → digits_off v (c ∷ cs) ≡ digits_off (more v c) cs
unfolding digits_off
digits_off-digit v c cs d h = rw (d, le-leb (more v c) largest h)

pub digits_off_over : (v c : ℕ) (cs : List ℕ) → is_digit c ≡ true → largest < more v c → digits_off v (c ∷ cs) ≡ nothing
unfolding digits_off
digits_off_over v c cs d h = rw (d, lt-leb (more v c) largest h)

pub number_off-other : (c : ℕ) (t : List ℕ) → is_digit c ≡ false → number_off (c ∷ t) ≡ nothing
unfolding number_off
number_off-other c t d = rw d

pub number_off-zero : (t : List ℕ) → number_off (48 ∷ t) ≡ zero_off t
unfolding number_off is_digit
number_off-zero t = refl

pub number_off-digit : (c : ℕ) (t : List ℕ) → is_digit c ≡ true → (c ≡ 48 → ⊥) → number_off (c ∷ t) ≡ digits_off (c - 48) t
unfolding number_off
number_off-digit c t d h = rw (d, ne_eqb c 48 h)

-- ---- What is written is read.

-- a number above 0 is read digit by digit
digits-read : (n : ℕ) (t : List ℕ) → 1 ≤ n → n ≤ largest → number_off (digits n ++ t) ≡ digits_off n t
digits-read n = by_digits (λ (m : ℕ). (t : List ℕ) → 1 ≤ m → m ≤ largest → number_off (digits m ++ t) ≡ digits_off m t) one step n
  where
    one : (m : ℕ) → m < 10 → (t : List ℕ) → 1 ≤ m → m ≤ largest → number_off (digits m ++ t) ≡ digits_off m t
    one m h t p q =
        ap (λ (l : List ℕ). number_off (l ++ t)) (digits-one m h)
        ∙ number_off-digit (48 + m) t (digit-is (48 + m) (omega arith) (omega arith)) (λ (e : 48 + m ≡ 48). omega arith)
        ∙ ap (λ (x : ℕ). digits_off x t) (omega arith)

    step : (m : ℕ) → 10 ≤ m → ((t : List ℕ) → 1 ≤ m / 10 → m / 10 ≤ largest → number_off (digits (m / 10) ++ t) ≡ digits_off (m / 10) t)
        → (t : List ℕ) → 1 ≤ m → m ≤ largest → number_off (digits m ++ t) ≡ digits_off m t
    step m h before t p q =
        let c : ℕ = 48 + m % 10 in
        let all : more (m / 10) c ≡ m = omega arith in
        ap (λ (l : List ℕ). number_off (l ++ t)) (digits_more m h)
        ∙ ap number_off (append_assoc (digits (m / 10)) (c ∷ []) t)
        ∙ before (c ∷ t) (omega arith) (omega arith)
        ∙ digits_off-digit (m / 10) c t (digit-is c (omega arith) (omega arith)) (omega arith)
        ∙ ap (λ (x : ℕ). digits_off x t) all

pub zero_off_stops : (t : List ℕ) → Stops t → zero_off t ≡ number 0 t
zero_off_stops [] h = refl
zero_off_stops (c ∷ cs) h = rw h

pub number_read : (n : ℕ) (t : List ℕ) → n ≤ largest → Stops t → number_off (digits n ++ t) ≡ number n t
number_read zero t h stop = ap (λ (l : List ℕ). number_off (l ++ t)) (digits-one 0 (omega arith)) ∙ number_off-zero t ∙ zero_off_stops t stop
number_read (suc n) t h stop = digits-read (suc n) t (omega arith) h ∙ digits_off_stops (suc n) t stop

pub spaced-read : (n : ℕ) (t : List ℕ) → n ≤ largest → Stops t → spaced_off (32 ∷ digits n ++ t) ≡ number n t
unfolding spaced_off
spaced-read n t h stop = number_read n t h stop

-- ---- What is read is written.

never : {A : Type 0} {v : ℕ} {rest : List ℕ} → nothing ≡ number v rest → A
never e = let z : ◌≡◌ {A = ℕ} 0 1 = cc in absurd (omega arith)

-- what was read so far is a, and t follows it
digits_off-written : (t : List ℕ) (a v : ℕ) (rest : List ℕ) → 1 ≤ a → a ≤ largest → digits_off a t ≡ number v rest → (digits a ++ t ≡ digits v ++ rest) × (v ≤ largest)
unfolding digits_off
digits_off-written [] a v rest p q e = let same : a ≡ v = cc in (cc, omega arith)
digits_off-written (c ∷ cs) a v rest p q e = go (is_digit c) refl (digits_off-written cs)
  where
    go : (b : Bool) → is_digit c ≡ b
        → ((a v : ℕ) (rest : List ℕ) → 1 ≤ a → a ≤ largest → digits_off a cs ≡ number v rest → (digits a ++ cs ≡ digits v ++ rest) × (v ≤ largest))
        → (digits a ++ c ∷ cs ≡ digits v ++ rest) × (v ≤ largest)
    go false d _ = let here : number a (c ∷ cs) ≡ number v rest = sym (digits_off_stops a (c ∷ cs) d) ∙ e in let same : a ≡ v = cc in (cc, omega arith)
    go true d later = small (leb (more a c) largest) refl
      where
        small : (b : Bool) → leb (more a c) largest ≡ b → (digits a ++ c ∷ cs ≡ digits v ++ rest) × (v ≤ largest)
        small false f = never (sym (digits_off_over a c cs d (leb-false (more a c) largest f)) ∙ e)
        small true f =
            let h : more a c ≤ largest = leb-true (more a c) largest f in
            let r = later (more a c) v rest (omega arith) h (sym (digits_off-digit a c cs d h) ∙ e) in (
              sym (append_assoc (digits a) (c ∷ []) cs)
                  ∙ ap (λ (l : List ℕ). l ++ cs) (sym (digits-next a c p (digit-from c d) (digit_to c d)))
                  ∙ r.0,
              r.1,
            )

zero-written : (t : List ℕ) (v : ℕ) (rest : List ℕ) → number 0 t ≡ number v rest → (48 ∷ t ≡ digits v ++ rest) × (v ≤ largest)
zero-written t v rest e =
    let none : v ≡ 0 = cc in
    let same : t ≡ rest = cc in
    (ap (λ (l : List ℕ). 48 ∷ l) same ∙ ap (λ (l : List ℕ). l ++ rest) (sym (digits-one 0 (omega arith)) ∙ ap digits (sym none)), omega arith)

zero_off-written : (t : List ℕ) (v : ℕ) (rest : List ℕ) → zero_off t ≡ number v rest → (48 ∷ t ≡ digits v ++ rest) × (v ≤ largest)
zero_off-written [] v rest e = zero-written [] v rest e
zero_off-written (c ∷ cs) v rest e = go (is_digit c) refl
  where
    go : (b : Bool) → is_digit c ≡ b → (48 ∷ c ∷ cs ≡ digits v ++ rest) × (v ≤ largest)
    go true d = never (ap (λ (b : Bool). cond b nothing (number 0 (c ∷ cs))) (sym d) ∙ e)
    go false d = zero-written (c ∷ cs) v rest (ap (λ (b : Bool). cond b nothing (number 0 (c ∷ cs))) (sym d) ∙ e)

pub number-written : (l : List ℕ) (v : ℕ) (rest : List ℕ) → number_off l ≡ number v rest → (l ≡ digits v ++ rest) × (v ≤ largest)
unfolding number_off
number-written [] v rest e = never e
number-written (c ∷ cs) v rest e = go (is_digit c) refl
  where
    go : (b : Bool) → is_digit c ≡ b → (c ∷ cs ≡ digits v ++ rest) × (v ≤ largest)
    go false d = never (sym (number_off-other c cs d) ∙ e)
    go true d = leading (eqb c 48) refl
      where
        leading : (b : Bool) → eqb c 48 ≡ b → (c ∷ cs ≡ digits v ++ rest) × (v ≤ largest)
        leading true z =
            let zero_is : c ≡ 48 = eqb-true c 48 z in
            let r = zero_off-written cs v rest (sym (number_off-zero cs) ∙ ap (λ (x : ℕ). number_off (x ∷ cs)) (sym zero_is) ∙ e) in
            (ap (λ (x : ℕ). x ∷ cs) zero_is ∙ r.0, r.1)
        leading false z =
            let low : 48 ≤ c = digit-from c d in
            let high : c ≤ 57 = digit_to c d in
            let not-zero : c ≡ 48 → ⊥ = eqb-false c 48 z in
            let above : 49 ≤ c = lt_of_le-ne low (λ (x : 48 ≡ c). not-zero (sym x)) in
            let digit : 48 + (c - 48) ≡ c = omega arith in
            let r = digits_off-written cs (c - 48) v rest (omega arith) (omega arith) (sym (number_off-digit c cs d not-zero) ∙ e) in
            (ap (λ (x : ℕ). x ∷ cs) (sym digit) ∙ ap (λ (l : List ℕ). l ++ cs) (sym (digits-one (c - 48) (omega arith))) ∙ r.0, r.1)

pub spaced-written : (l : List ℕ) (v : ℕ) (rest : List ℕ) → spaced_off l ≡ number v rest → (l ≡ 32 ∷ digits v ++ rest) × (v ≤ largest)
unfolding spaced_off
spaced-written [] v rest e = never e
spaced-written (c ∷ cs) v rest e = go (eqb c 32) refl
  where
    go : (b : Bool) → eqb c 32 ≡ b → (c ∷ cs ≡ 32 ∷ digits v ++ rest) × (v ≤ largest)
    go true z =
        let r = number-written cs v rest (ap (λ (b : Bool). cond b (number_off cs) nothing) (sym z) ∙ e) in
        (ap (λ (x : ℕ). x ∷ cs) (eqb-true c 32 z) ∙ ap (λ (l : List ℕ). 32 ∷ l) r.0, r.1)
    go false z = never (ap (λ (b : Bool). cond b (number_off cs) nothing) (sym z) ∙ e)
