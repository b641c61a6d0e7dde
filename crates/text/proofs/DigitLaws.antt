-- The decimal of n: below ten its one digit, else that of n / 10 and one digit more.
use mathlib.Core.Path.{◌≡◌, refl, sym, ap, ◌∙◌}
use mathlib.Core.Bool.{Bool, true, false, ◌&&◌}
use mathlib.Core.List.{List, [], ◌∷◌, ◌++◌}
use Prim.Native.Nat.{ℕ, zero, suc, ◌+◌, ◌*◌, ◌/◌, ◌%◌, ◌^◌, ◌≤◌, ◌<◌}
use native.Mathlib.Nat.{le_refl, pow-suc}
use native.Mathlib.Omega.{arith}
use lib.Dec.{leb, ltb}
use lib.ListN.{length, length-append}
use borrow.Author.Tests.{ltb-true, ltb-false, leb-true, lt-ltb, le-ltb, le-leb}
use Rattle.std.specs.Char.{is_ascii_digit}
use Rattle.text.specs.Digits.{digits_by, digits, is_digit, more}

digits_by-one : (k n : ℕ) → n < 10 → digits_by k n ≡ (48 + n) ∷ []
unfolding digits_by
digits_by-one zero n h = refl
digits_by-one (suc k) n h = rw (lt-ltb n 10 h)

digits_by-more : (k n : ℕ) → 10 ≤ n → digits_by (suc k) n ≡ digits_by k (n / 10) ++ (48 + n % 10) ∷ []
unfolding digits_by
digits_by-more k n h = rw (le-ltb n 10 h)

-- any two bounds on the turns that are enough give the same
digits_by-enough : (k j n : ℕ) → n ≤ k → n ≤ j → digits_by k n ≡ digits_by j n
digits_by-enough zero j n h g = digits_by-one zero n (omega arith) ∙ sym (digits_by-one j n (omega arith))
digits_by-enough (suc k) zero n h g = digits_by-one (suc k) n (omega arith) ∙ sym (digits_by-one zero n (omega arith))
digits_by-enough (suc k) (suc j) n h g = go (ltb n 10) refl (λ (e : 10 ≤ n). digits_by-enough k j (n / 10) (omega arith) (omega arith))
  where
    go : (b : Bool) → ltb n 10 ≡ b → (10 ≤ n → digits_by k (n / 10) ≡ digits_by j (n / 10)) → digits_by (suc k) n ≡ digits_by (suc j) n
    go true e _ = digits_by-one (suc k) n (ltb-true n 10 e) ∙ sym (digits_by-one (suc j) n (ltb-true n 10 e))
    go false e same =
        let h : 10 ≤ n = ltb-false n 10 e in
        digits_by-more k n h ∙ ap (λ (l : List ℕ). l ++ (48 + n % 10) ∷ []) (same h) ∙ sym (digits_by-more j n h)

pub digits-one : (n : ℕ) → n < 10 → digits n ≡ (48 + n) ∷ []
digits-one n h = digits_by-one n n h

pub digits_more : (n : ℕ) → 10 ≤ n → digits n ≡ digits (n / 10) ++ (48 + n % 10) ∷ []
digits_more zero h = absurd (omega arith)
digits_more (suc n) h =
    digits_by-more n (suc n) h ∙ ap (λ (l : List ℕ). l ++ (48 + suc n % 10) ∷ []) (digits_by-enough n (suc n / 10) (suc n / 10) (omega arith) (le_refl (suc n / 10)))

-- what holds of the numbers below ten, and of n where it holds of n / 10, holds of every number
pub by_digits : (P : ℕ → Type 0) → ((n : ℕ) → n < 10 → P n) → ((n : ℕ) → 10 ≤ n → P (n / 10) → P n) → (n : ℕ) → P n
by_digits P one step n = upto n n (le_refl n)
  where
    upto : (k n : ℕ) → n ≤ k → P n
    upto zero n h = one n (omega arith)
    upto (suc k) n h = go (ltb n 10) refl (λ (e : 10 ≤ n). upto k (n / 10) (omega arith))
      where
        go : (b : Bool) → ltb n 10 ≡ b → (10 ≤ n → P (n / 10)) → P n
        go true e _ = one n (ltb-true n 10 e)
        go false e below = step n (ltb-false n 10 e) (below (ltb-false n 10 e))

-- ---- A digit, as a byte.

-- the library's test is this one
pub digit-told : {r b : Bool} (c : ℕ) → r ≡ is_ascii_digit c → r ≡ b → is_digit c ≡ b
unfolding is_digit
digit-told c e h = sym e ∙ h

pub digit-is : (c : ℕ) → 48 ≤ c → c ≤ 57 → is_digit c ≡ true
unfolding is_digit
digit-is c h g = rw (le-leb 48 c h, le-leb c 57 g)

pub digit-from : (c : ℕ) → is_digit c ≡ true → 48 ≤ c
unfolding is_digit
digit-from c e = go (leb 48 c) refl
  where
    go : (b : Bool) → leb 48 c ≡ b → 48 ≤ c
    go true h = leb-true 48 c h
    go false h = let z : false ≡ true = sym (ap (λ (t : Bool). t && leb c 57) h) ∙ e in let y : ◌≡◌ {A = ℕ} 0 1 = cc in absurd (omega arith)

pub digit_to : (c : ℕ) → is_digit c ≡ true → c ≤ 57
unfolding is_digit
digit_to c e = go (leb c 57) refl
  where
    go : (b : Bool) → leb c 57 ≡ b → c ≤ 57
    go true h = leb-true c 57 h
    go false h = let z : leb 48 c && false ≡ true = ap (λ (t : Bool). leb 48 c && t) (sym h) ∙ e in never (leb 48 c) z
      where
        never : (b : Bool) → b && false ≡ true → c ≤ 57
        never true y = let x : ◌≡◌ {A = ℕ} 0 1 = cc in absurd (omega arith)
        never false y = let x : ◌≡◌ {A = ℕ} 0 1 = cc in absurd (omega arith)

-- one digit more
pub digits-next : (v c : ℕ) → 1 ≤ v → 48 ≤ c → c ≤ 57 → digits (more v c) ≡ digits v ++ c ∷ []
digits-next v c h g u =
    let n : ℕ = more v c in
    let high : n / 10 ≡ v = omega arith in
    let low : 48 + n % 10 ≡ c = omega arith in
    digits_more n (omega arith) ∙ ap (λ (x : ℕ). digits x ++ (48 + n % 10) ∷ []) high ∙ ap (λ (x : ℕ). digits v ++ x ∷ []) low

-- ---- How many digits.

pub digits-length-one : (n : ℕ) → n < 10 → length (digits n) ≡ 1
digits-length-one n h = ap length (digits-one n h)

pub digits-length-more : (n : ℕ) → 10 ≤ n → length (digits n) ≡ length (digits (n / 10)) + 1
digits-length-more n h = ap length (digits_more n h) ∙ length-append (digits (n / 10)) ((48 + n % 10) ∷ [])

pub digits-length : (k n : ℕ) → n < 10 ^ suc k → length (digits n) ≤ suc k
digits-length zero n h = rw (digits-one n h) (omega arith)
digits-length (suc k) n h = go (ltb n 10) refl (λ (f : n / 10 < 10 ^ suc k). digits-length k (n / 10) f)
  where
    go : (b : Bool) → ltb n 10 ≡ b → (n / 10 < 10 ^ suc k → length (digits (n / 10)) ≤ suc k) → length (digits n) ≤ suc (suc k)
    go true e _ = rw (digits-one n (ltb-true n 10 e)) (omega arith)
    go false e higher =
        let h' : n < 10 ^ suc k * 10 = rw pow-suc at h in
        let f : length (digits (n / 10)) ≤ suc k = higher (omega arith) in
        rw (digits_more n (ltb-false n 10 e), length-append) (omega arith)

-- a number of 32 bits has at most ten
pub digits-ten : (n : ℕ) → n < 2 ^ 32 → length (digits n) ≤ 10
digits-ten n h = digits-length 9 n (omega arith)

-- the highest power of ten that is not above the number tells
pub digits-power : (k n : ℕ) → 10 ^ k ≤ n → n < 10 * 10 ^ k → length (digits n) ≡ k + 1
digits-power zero n h g = digits-length-one n (omega arith)
digits-power (suc k) n h g =
    let power : 10 ^ suc k ≡ 10 ^ k * 10 = pow-suc 10 k in
    let more : 10 ≤ n = omega (arith, power) in
    let higher = digits-power k (n / 10) (omega (arith, power)) (omega (arith, power)) in
    omega (arith, digits-length-more n more, higher)
