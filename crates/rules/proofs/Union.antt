-- The union of the rows' weights: its order is theirs, and its bits are the columns that have a row. So it is told by its rows, whatever their order.
use Prim.Native.Nat.{ℕ, ◌≤◌, max}
use mathlib.Core.Path.{◌≡◌, refl, ap, ap₂, ◌∙◌}
use mathlib.Core.Bool.{not}
use mathlib.Core.List.{List, [], ◌∷◌}
use mathlib.Core.Logic.{◌⊎◌, inl, inr}
use native.Mathlib.Omega.{arith}
use lib.Bits.{bit_or}
use lib.Dec.{eqb}
use Rattle.bits.specs.Bit.{bit}
use Rattle.bits.specs.Order.{order}
use Rattle.bits.proofs.BitLaws.{bit-none, bit-cases}
use Rattle.bits.proofs.OrderLaws.{order-zero, order_or}
use Rattle.bits.proofs.UnionLaws.{bit-or}
use Rattle.lists.specs.Slots.{occurs, keep_if}
use Rattle.lists.specs.Tests.{is_empty}
use Rattle.lists.proofs.SlotsLaws.{if_eq, occurs-other}
use Rattle.rules.specs.State.{order_of, column_of}
use Rattle.rules.specs.Jump.{union_of}
use Rattle.rules.proofs.Columns.{Agree, first-row, later_rows}

pub order-union : (f : ℕ → ℕ) (rows : List ℕ) → order (union_of f rows) ≡ order_of f rows
unfolding union_of order_of
order-union f [] = order-zero
order-union f (r ∷ rs) = order_or (f r) (union_of f rs) ∙ ap (max (order (f r))) (order-union f rs)

pub union-column : (f : ℕ → ℕ) (rows : List ℕ) (c : ℕ) → is_empty (column_of f rows c) ≡ not (eqb (bit c (union_of f rows)) 1)
unfolding union_of column_of
union-column f [] c = rw (bit-none c) refl
union-column f (r ∷ rs) c = rw (bit-or c (f r) (union_of f rs)) (go (bit-cases c (f r)) (union-column f rs c))
  where
    go : (bit c (f r) ≡ 0) ⊎ (bit c (f r) ≡ 1) → is_empty (column_of f rs c) ≡ not (eqb (bit c (union_of f rs)) 1)
        → is_empty (keep_if (eqb (bit c (f r)) 1) r (column_of f rs c)) ≡ not (eqb (max (bit c (f r)) (bit c (union_of f rs))) 1)
    go (inl z) later = let m : max 0 (bit c (union_of f rs)) ≡ bit c (union_of f rs) = omega arith in rw (z, m) later
    go (inr z) later =
        elim (bit-cases c (union_of f rs)) [ inl y ↦ rw (z, y) refl | inr y ↦ rw (z, y) refl ]

-- ---- it has each row's bits and no other

pub union_has : (f : ℕ → ℕ) (c r : ℕ) (rows : List ℕ) → 1 ≤ occurs r rows → bit c (f r) ≤ bit c (union_of f rows)
unfolding union_of
union_has f c r [] h = absurd (omega arith)
union_has f c r (x ∷ xs) h =
    rw (bit-or c (f x) (union_of f xs))
    (if_eq r x (λ e. rw e (omega arith)) (λ n. let m = union_has f c r xs (rw (occurs-other r x xs n) at h) in omega arith))

pub union-only : (f : ℕ → ℕ) (c m : ℕ) (rows : List ℕ) → ((r : ℕ) → 1 ≤ occurs r rows → bit c (f r) ≤ m) → bit c (union_of f rows) ≤ m
unfolding union_of
union-only f c m [] h = rw (bit-none c) (omega arith)
union-only f c m (r ∷ rs) h =
    rw (bit-or c (f r) (union_of f rs))
    (omega (arith, first-row (λ x. bit c (f x) ≤ m) r rs h, union-only f c m rs (later_rows (λ x. bit c (f x) ≤ m) r rs h)))

pub union_cong : (f g : ℕ → ℕ) (rows : List ℕ) → Agree f g rows → union_of f rows ≡ union_of g rows
unfolding union_of
union_cong f g [] h = refl
union_cong f g (r ∷ rs) h = ap₂ (λ (a b : ℕ). bit_or a b) (first-row (λ x. f x ≡ g x) r rs h) (union_cong f g rs (later_rows (λ x. f x ≡ g x) r rs h))
