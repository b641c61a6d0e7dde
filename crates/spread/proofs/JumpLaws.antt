-- The jump over empty columns. With d = 2^(k - order u): a position that d does not divide has a column above u's highest bit, an odd multiple of d has
-- that bit's column, so of two multiples in turn one finds a row; and an even multiple below 2^k has its successor below 2^k.
use Prim.Native.Nat.{ℕ, zero, suc, ◌+◌, ◌-◌, ◌*◌, ◌/◌, ◌%◌, ◌^◌, ◌≤◌, ◌<◌}
use mathlib.Core.Path.{◌≡◌, refl, sym, ap, ◌∙◌, subst}
use mathlib.Core.Bool.{Bool, true, false, cond}
use mathlib.Core.Logic.{inl, inr}
use Rattle.std.specs.Prelude.{Option, Some, None}
use native.Mathlib.Nat.{pow-suc, mul_comm, mod-lt, div-add-mod, div-eq_of_lt-le, div-mul-le_self, lt-div-mul-add, mul-div_cancel, mul-mod_left, mul-le-mul_right, lt_of_mul-lt-mul_right}
use native.Mathlib.Decide.{dec_lt}
use native.Mathlib.Omega.{arith}
use lib.Dec.{ltb}
use lib.Pow.{pow-add, pow_pos}
use borrow.Author.Tests.{ltb-true, ltb-false, lt-ltb, le-ltb, eqb-true, eqb-false}
use Rattle.bits.specs.Bit.{bit}
use Rattle.bits.specs.Order.{order}
use Rattle.bits.specs.Trailing.{trailing}
use Rattle.bits.proofs.BitLaws.{parity, bit-cases}
use Rattle.bits.proofs.OrderLaws.{order-pos, order-top, order-above}
use Rattle.bits.proofs.TrailingLaws.{trailing_odd, trailing_lt, trailing_mod, trailing_div}
use Rattle.spread.specs.Sequence.{term}
use Rattle.spread.specs.Visits.{column_at}
use Rattle.spread.specs.Jump.{filled_at, searched, multiple, jump, Found, landing}

-- ---- the search

pub search-found : (f k u p t : ℕ) → p < t → t < 2 ^ k → t ≤ p + f → bit (column_at k t) u ≡ 1
    → ((q : ℕ) → p < q → q < t → bit (column_at k q) u ≡ 0) → searched f k u p ≡ Some t
unfolding searched
search-found zero k u p t l h n e z = absurd (omega arith)
search-found (suc f) k u p t l h n e z =
    elim (dec_lt (suc p) t) [
      | yes m ↦
          rw (lt-ltb (suc p) (2 ^ k) (omega arith), z (suc p) (omega arith) m)
          (search-found f k u (suc p) t m h (omega arith) e (λ q a b. z q (omega arith) b))
      | no m ↦
          let q : suc p ≡ t = omega arith in
          rw (lt-ltb (suc p) (2 ^ k) (omega arith), q, e) refl
    ]

pub search-none : (f k u p : ℕ) → ((q : ℕ) → p < q → q < 2 ^ k → bit (column_at k q) u ≡ 0) → searched f k u p ≡ None
unfolding searched
search-none zero k u p z = refl
search-none (suc f) k u p z =
    elim (dec_lt (suc p) (2 ^ k)) [
      | yes m ↦
          rw (lt-ltb (suc p) (2 ^ k) m, z (suc p) (omega arith) m)
          (search-none f k u (suc p) (λ q a b. z q (omega arith) b))
      | no m ↦ rw (le-ltb (suc p) (2 ^ k) (omega arith)) refl
    ]

-- ---- which columns are empty, and which is not

pub multiple-after : (s p : ℕ) → p < multiple s p
multiple-after s p = omega (arith, lt-div-mul-add {a = p} {b = 2 ^ s} (pow_pos s))

-- between two multiples of d there is none
between : (d m q : ℕ) → m * d < q → q < (m + 1) * d → 0 < q % d
between d m q l h =
    let e : q / d ≡ m = div-eq_of_lt-le d (omega arith) h in
    let s : d * m + q % d ≡ q = rw e at (div-add-mod q d) in
    omega (arith, mul_comm d m)

pub column-empty : (k u q : ℕ) → order u ≤ k → 0 < q % 2 ^ (k - order u) → bit (column_at k q) u ≡ 0
unfolding column_at term
column-empty k u q o h =
    let j = k - order u in
    let e : trailing q ≡ trailing (q % 2 ^ j) = trailing_mod j q h in
    let l : trailing (q % 2 ^ j) < j = trailing_lt j (q % 2 ^ j) h (mod-lt q (pow_pos j)) in
    order-above u (k - suc (trailing q)) (omega arith)

-- an odd multiple of 2^(k - o) has column o - 1
pub column-multiple : (k o m : ℕ) → 0 < o → o ≤ k → m % 2 ≡ 1 → column_at k (m * 2 ^ (k - o)) ≡ o - 1
unfolding column_at term
column-multiple k o m h l e =
    let j = k - o in
    let one : 1 ≤ m = omega arith in
    let pos : 0 < m * 2 ^ j = omega (arith, mul-le-mul_right (2 ^ j) one, pow_pos j) in
    let t : trailing (m * 2 ^ j) ≡ j + trailing (m * 2 ^ j / 2 ^ j) = trailing_div j (m * 2 ^ j) pos (mul-mod_left m (2 ^ j)) in
    let z : trailing (m * 2 ^ j / 2 ^ j) ≡ 0 = ap trailing (mul-div_cancel m (pow_pos j)) ∙ trailing_odd m e in
    omega arith

pub column-filled : (k u m : ℕ) → 0 < u → order u ≤ k → m % 2 ≡ 1 → bit (column_at k (m * 2 ^ (k - order u))) u ≡ 1
column-filled k u m h o e = rw (column-multiple k (order u) m (order-pos u h) o e) (order-top u h)

-- ---- the law

-- an even multiple of d below 2^k has its successor below 2^k
even_successor : (k u m : ℕ) → 0 < u → order u ≤ k → m % 2 ≡ 0 → m * 2 ^ (k - order u) < 2 ^ k → (m + 1) * 2 ^ (k - order u) < 2 ^ k
even_successor k u m h o e l =
    let d = 2 ^ (k - order u) in
    let n = order u - 1 in
    let sum : suc n + (k - order u) ≡ k = omega (arith, order-pos u h) in
    let whole : 2 ^ suc n * d ≡ 2 ^ k = sym (pow-add 2 (suc n) (k - order u)) ∙ ap (λ (x : ℕ). 2 ^ x) sum in
    let two : 2 ^ suc n ≡ 2 ^ n * 2 = pow-suc 2 n in
    let below : m < 2 ^ suc n = lt_of_mul-lt-mul_right d (rw whole l) in
    let more : m + 2 ≤ 2 ^ suc n = omega arith in
    omega (arith, mul-le-mul_right d more, pow_pos (k - order u))

module _ (k u p : ℕ) (h : 0 < u) (o : order u ≤ k) where
  -- the multiples of d next to p: m d ≤ p < (m + 1) d
  d : ℕ
  d = 2 ^ (k - order u)

  -- no row from p on up to the next multiple of d, nor from a multiple to the next
  up_to : (q : ℕ) → p < q → q < multiple (k - order u) p → bit (column_at k q) u ≡ 0
  unfolding d
  up_to q l m = column-empty k u q o (between (2 ^ (k - order u)) (p / 2 ^ (k - order u)) q (omega (arith, div-mul-le_self p (2 ^ (k - order u)))) m)

  past : (m q : ℕ) → m * d < q → q < (m + 1) * d → bit (column_at k q) u ≡ 0
  unfolding d
  past m q l n = column-empty k u q o (between (2 ^ (k - order u)) m q l n)

  -- the second candidate, where the first finds no row
  second : (m : ℕ) → m ≡ p / d + 1 → m * d < 2 ^ k → bit (column_at k (m * d)) u ≡ 0 → searched (2 ^ k) k u p ≡ Some (m * d + d)
  unfolding d
  second m e l z =
      let D = 2 ^ (k - order u) in
      let dp : 0 < D = pow_pos (k - order u) in
      let next : (m + 1) * D ≡ m * D + D = omega arith in
      let b : p < m * D = rw e (multiple-after (k - order u) p) in
      elim (parity m) [
        | inl even ↦
            let lt : (m + 1) * D < 2 ^ k = even_successor k u m h o even l in
            search-found (2 ^ k) k u p (m * D + D) (omega arith) (omega arith) (omega arith)
            (rw (← next) (column-filled k u (m + 1) h o (omega arith)))
            (λ q x y.
            elim (dec_lt q (m * D)) [
              | yes r ↦ up_to q x (rw (← e) r)
              | no r ↦
                  elim (dec_lt (m * D) q) [
                    | yes t ↦ past m q t (rw next y)
                    | no t ↦ let same : q ≡ m * D = omega arith in rw same z
                  ]
            ])
        | inr odd ↦ absurd (let one : bit (column_at k (m * D)) u ≡ 1 = column-filled k u m h o odd in omega arith)
      ]

  -- the search one by one gives what the two candidates give
  pub jump-law : searched (2 ^ k) k u p ≡ jump k u p
  unfolding d jump
  jump-law = go (ltb a (2 ^ k)) refl (filled_at k u a) refl
    where
      a : ℕ
      a = multiple (k - order u) p

      go : (b : Bool) → ltb a (2 ^ k) ≡ b → (c : Bool) → filled_at k u a ≡ c
          → searched (2 ^ k) k u p ≡ cond b (Some (cond c a (a + 2 ^ (k - order u)))) None
      go true l true e = search-found (2 ^ k) k u p a (multiple-after (k - order u) p) (ltb-true a (2 ^ k) l) (let x = ltb-true a (2 ^ k) l in omega arith) (eqb-true _ _ e) up_to
      go true l false e =
          second (p / 2 ^ (k - order u) + 1) refl (ltb-true a (2 ^ k) l)
          (elim (bit-cases (column_at k a) u) [ inl z ↦ z | inr z ↦ absurd (eqb-false _ _ e z) ])
      go false l c e = search-none (2 ^ k) k u p (λ q x y. let m : 2 ^ k ≤ a = ltb-false a (2 ^ k) l in up_to q x (omega arith))

-- ---- what it means

found-on : (k u p : ℕ) (o : Option ℕ) → bit (column_at k (suc p)) u ≡ 0 → Found k u (suc p) o → Found k u p o
found-on k u p None z h = λ q a b. elim (dec_lt (suc p) q) [ yes m ↦ h q m b | no m ↦ let e : q ≡ suc p = omega arith in rw e z ]
found-on k u p (Some t) z h = (
  (let l = h.0 in omega arith),
  h.1,
  h.2,
  λ q a b. elim (dec_lt (suc p) q) [ yes m ↦ h.3 q m b | no m ↦ let e : q ≡ suc p = omega arith in rw e z ],
)

search-means : (f k u p : ℕ) → 2 ^ k ≤ suc p + f → Found k u p (searched f k u p)
unfolding searched
search-means zero k u p l = λ q a b. absurd (omega arith)
search-means (suc f) k u p l = go (ltb (suc p) (2 ^ k)) refl (filled_at k u (suc p)) refl (search-means f k u (suc p) (omega arith))
  where
    go : (b : Bool) → ltb (suc p) (2 ^ k) ≡ b → (c : Bool) → filled_at k u (suc p) ≡ c → Found k u (suc p) (searched f k u (suc p))
        → Found k u p (cond b (cond c (Some (suc p)) (searched f k u (suc p))) None)
    go true m true e h = ((omega arith), ltb-true (suc p) (2 ^ k) m, eqb-true _ _ e, λ q a b. absurd (omega arith))
    go true m false e h =
        found-on k u p (searched f k u (suc p)) (elim (bit-cases (column_at k (suc p)) u) [ inl z ↦ z | inr z ↦ absurd (eqb-false _ _ e z) ]) h
    go false m c e h = λ q a b. absurd (let n : 2 ^ k ≤ suc p = ltb-false (suc p) (2 ^ k) m in omega arith)

-- the jump finds the first one, and none only where there is none
pub jump-means : (k u p : ℕ) → 0 < u → order u ≤ k → Found k u p (jump k u p)
jump-means k u p h o = subst (Found k u p) (jump-law k u p h o) (search-means (2 ^ k) k u p (omega arith))

-- in one number: any but 0 is that position, and 0 says that there is none, as a position found comes after another and so is not 0
pub landing-found : (k u p : ℕ) → 0 < u → order u ≤ k → 0 < landing (jump k u p) → Found k u p (Some (landing (jump k u p)))
landing-found k u p h o = go (jump k u p) (jump-means k u p h o)
  where
    go : (j : Option ℕ) → Found k u p j → 0 < landing j → Found k u p (Some (landing j))
    go None f l = absurd (omega arith)
    go (Some t) f l = f

pub landing-none : (k u p : ℕ) → 0 < u → order u ≤ k → landing (jump k u p) ≡ 0 → Found k u p None
landing-none k u p h o = go (jump k u p) (jump-means k u p h o)
  where
    go : (j : Option ℕ) → Found k u p j → landing j ≡ 0 → Found k u p None
    go None f e = f
    go (Some t) f e = absurd (let l = f.0 in omega arith)
