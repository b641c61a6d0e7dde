-- The jump in numbers of 32 bits: the next multiple is at most 2^k, so the code's shifts lose nothing, and its three answers are the jump's.
use Prim.Native.Nat.{ℕ, suc, ◌+◌, ◌-◌, ◌*◌, ◌/◌, ◌%◌, ◌^◌, ◌≤◌, ◌<◌}
use mathlib.Core.Path.{◌≡◌, refl, sym, ap, ◌∙◌}
use native.Mathlib.Omega.{arith}
use borrow.Author.Tests.{lt-ltb, le-ltb, eq-eqb, ne_eqb}
use lib.Pow.{pow_pos, shr_lt, shl_exact}
use Rattle.std.specs.Prelude.{Option, Some, None}
use Rattle.bits.specs.Bit.{bit}
use Rattle.bits.specs.Order.{order}
use Rattle.bits.proofs.ShiftLaws.{shifted}
use Rattle.spread.specs.Limits.{columns}
use Rattle.spread.specs.Visits.{column_at}
use Rattle.spread.specs.Jump.{multiple, jump, landing}

pub multiple-shifted : (k s p : ℕ) → s ≤ k → k < 32 → p < 2 ^ k → multiple s p % 2 ^ 32 ≡ multiple s p
multiple-shifted k s p l n h =
    let whole : k - s + s ≡ k = omega arith in
    let quotient : p / 2 ^ s < 2 ^ (k - s) = shr_lt (k - s) s (rw whole h) in
    shl_exact (suc (k - s)) s 32 (omega (arith, pow_pos (k - s))) (omega arith)

-- ---- the three answers, and each in one number

jumped-none : (k u p : ℕ) → 2 ^ k ≤ multiple (k - order u) p → jump k u p ≡ None
unfolding jump
jumped-none k u p h = rw (le-ltb (multiple (k - order u) p) (2 ^ k) h) refl

jumped-first : (k u p : ℕ) → multiple (k - order u) p < 2 ^ k → bit (column_at k (multiple (k - order u) p)) u ≡ 1 → jump k u p ≡ Some (multiple (k - order u) p)
unfolding jump
jumped-first k u p h e = rw (lt-ltb (multiple (k - order u) p) (2 ^ k) h, eq-eqb _ _ e) refl

jumped-second : (k u p : ℕ) → multiple (k - order u) p < 2 ^ k → (bit (column_at k (multiple (k - order u) p)) u ≡ 1 → ⊥)
    → jump k u p ≡ Some (multiple (k - order u) p + 2 ^ (k - order u))
unfolding jump
jumped-second k u p h e = rw (lt-ltb (multiple (k - order u) p) (2 ^ k) h, ne_eqb _ _ e) refl

pub jump-none : (k u p : ℕ) → 2 ^ k ≤ multiple (k - order u) p → landing (jump k u p) ≡ 0
jump-none k u p h = ap landing (jumped-none k u p h)

pub jump-first : (k u p : ℕ) → multiple (k - order u) p < 2 ^ k → bit (column_at k (multiple (k - order u) p)) u ≡ 1
    → landing (jump k u p) ≡ multiple (k - order u) p
jump-first k u p h e = ap landing (jumped-first k u p h e)

pub jump-second : (k u p : ℕ) → multiple (k - order u) p < 2 ^ k → (bit (column_at k (multiple (k - order u) p)) u ≡ 1 → ⊥)
    → landing (jump k u p) ≡ multiple (k - order u) p + 2 ^ (k - order u)
jump-second k u p h e = ap landing (jumped-second k u p h e)

-- ---- the same as the code has them

-- k is the order, u the union, p the position, and b what the code holds as the order of the union
module _ (k u p b : ℕ) (same : b ≡ order u) (fit : order u ≤ k) (low : k ≤ columns) (here : p < 2 ^ k) where
  -- the first candidate, as the code has it and as the jump has it
  abbrev pub first : ℕ
  first = multiple (k - b) p % 2 ^ 32

  abbrev candidate : ℕ
  candidate = multiple (k - order u) p

  first_is : first ≡ candidate
  first_is = rw same (multiple-shifted k (k - order u) p (omega arith) (omega arith) here)

  -- the code's 2 to the order, and its distance from the first candidate to the second
  whole : 1 * 2 ^ k % 2 ^ 32 ≡ 2 ^ k
  whole = shifted 32 k (omega arith)

  step : 1 * 2 ^ (k - b) % 2 ^ 32 ≡ 2 ^ (k - order u)
  step = rw same (shifted 32 (k - order u) (omega arith))

  pub jump-none-worked : 1 * 2 ^ k % 2 ^ 32 ≤ first → ◌≡◌ {A = Option ℕ} None (jump k u p)
  jump-none-worked h = sym (jumped-none k u p (omega (arith, whole, first_is)))

  -- the first candidate stands before 2 to the order, and c is its column
  module _ (h : first < 1 * 2 ^ k % 2 ^ 32) (c : ℕ) (at : c ≡ column_at k first) where
    before : candidate < 2 ^ k
    before = omega (arith, whole, first_is)

    -- the bit that the code looks at is that of the candidate's column
    asked : u / 2 ^ c % 2 ≡ bit (column_at k candidate) u
    unfolding bit
    asked = ap (λ (x : ℕ). u / 2 ^ x % 2) (at ∙ ap (column_at k) first_is)

    pub jump-first-worked : u / 2 ^ c % 2 ≡ 1 → ◌≡◌ {A = Option ℕ} (Some first) (jump k u p)
    jump-first-worked e = ap (λ (x : ℕ). Some x) first_is ∙ sym (jumped-first k u p before (sym asked ∙ e))

    pub jump-second-worked : (u / 2 ^ c % 2 ≡ 1 → ⊥) → ◌≡◌ {A = Option ℕ} (Some (first + 1 * 2 ^ (k - b) % 2 ^ 32)) (jump k u p)
    jump-second-worked e = rw step (ap (λ (x : ℕ). Some (x + 2 ^ (k - order u))) first_is ∙ sym (jumped-second k u p before (λ z. e (asked ∙ z))))
