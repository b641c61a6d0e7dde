-- The union of the weights has the order of all. Weights in range have at most 12 columns
-- and, if they are no more than 64, at most 262,080 visits.
use Prim.Native.Nat.{ℕ, ◌*◌, ◌^◌, ◌≤◌, ◌<◌, max}
use mathlib.Core.Path.{◌≡◌, sym, ◌∙◌}
use mathlib.Core.Bool.{Bool, false, ◌||◌}
use mathlib.Core.List.{List, [], ◌∷◌}
use native.Mathlib.Omega.{arith}
use lib.ListN.{length}
use Rattle.std.specs.Int.Bits.{bit_or}
use Rattle.std.specs.List.{fold}
use Rattle.std.proofs.Math.Bool.{or_assoc, or-false}
use Rattle.lists.proofs.TestLaws.{or_false}
use Rattle.bits.specs.Order.{order}
use Rattle.bits.proofs.OrderLaws.{order_le, order_or}
use Rattle.spread.specs.Limits.{outside}
use Rattle.spread.specs.Round.{order_all, sum}
use Rattle.spread.proofs.Limits.{between}
use Rattle.sheet.specs.Sheet.{rows_most, heaviest_on_sheet, columns_on_sheet, any_bad}

-- ---- their union

-- the union of the weights, taken up by one that stands already, has the order of all
pub order-union : (u : ℕ) (ws : List ℕ) → order (fold bit_or u ws) ≡ max (order u) (order_all ws)
unfolding order_all
order-union u [] = omega arith
order-union u (w ∷ ws) = omega (arith, order-union (bit_or u w) ws, order_or u w)

-- ---- in range

-- whether one was bad so far, or one of the rest is
pub any-fold : (found : Bool) (ws : List ℕ) → fold (λ (bad : Bool) (w : ℕ). bad || outside 1 heaviest_on_sheet w) found ws ≡ found || any_bad ws
any-fold found [] = sym (or-false found)
any-fold found (w ∷ ws) = any-fold (found || outside 1 heaviest_on_sheet w) ws ∙ or_assoc found (outside 1 heaviest_on_sheet w) (any_bad ws)

pub order_small : (ws : List ℕ) → any_bad ws ≡ false → order_all ws ≤ columns_on_sheet
unfolding order_all
order_small [] e = omega arith
order_small (w ∷ ws) e =
    let (a, b) = or_false (outside 1 heaviest_on_sheet w) (any_bad ws) e in
    let h : w < 2 ^ 12 = omega (arith, (between 1 heaviest_on_sheet w a).1) in
    omega (arith, order_le w 12 h, order_small ws b)

sum-small : (ws : List ℕ) → any_bad ws ≡ false → sum ws ≤ length ws * heaviest_on_sheet
unfolding sum
sum-small [] e = omega arith
sum-small (w ∷ ws) e =
    let (a, b) = or_false (outside 1 heaviest_on_sheet w) (any_bad ws) e in
    omega (arith, (between 1 heaviest_on_sheet w a).1, sum-small ws b)

-- the longest sheet: 64 rows of 4,095
pub visits-most : (ws : List ℕ) → length ws ≤ rows_most → any_bad ws ≡ false → sum ws ≤ 262080
visits-most ws h e = omega (arith, sum-small ws e)
