-- The visits of a round: each row occurs as often as its weight, so there are as many as the weights' sum.
use Prim.Native.Nat.{ℕ, zero, suc, ◌+◌, ◌-◌, ◌^◌, ◌<◌}
use mathlib.Core.Path.{◌≡◌, refl, sym, ap, ◌∙◌}
use mathlib.Core.Bool.{Bool, true, false}
use mathlib.Core.Logic.{◌⊎◌, inl, inr}
use mathlib.Core.List.{List, [], ◌∷◌}
use native.Mathlib.Nat.{lt_of_lt_of_le, le-max_left, le-max_right}
use native.Mathlib.Omega.{arith}
use lib.Dec.{eqb}
use lib.ListN.{length, get_or, length-append}
use lib.Pow.{pow_mono}
use Rattle.bits.specs.Bit.{bit}
use Rattle.bits.specs.Order.{order}
use Rattle.lists.specs.Slots.{occurs, keep_if}
use Rattle.bits.proofs.BitLaws.{bit-cases, bit-none}
use Rattle.bits.proofs.OrderLaws.{order_lt}
use Rattle.lists.proofs.SlotsLaws.{occurs-same, occurs-other, occurs_append}
use Rattle.spread.specs.Visits.{column_at, visit, visits}
use Rattle.spread.specs.Round.{order_all, rows_with, visits_from, round_of, sum}
use Rattle.spread.proofs.Visits.{visits-round}

-- ---- one column

rows-below : (c r : ℕ) (ws : List ℕ) (x : ℕ) → x < r → occurs x (rows_with c r ws) ≡ 0
unfolding rows_with
rows-below c r [] x l = refl
rows-below c r (w ∷ ws) x l = go (eqb (bit c w) 1) (rows-below c (suc r) ws x (omega arith))
  where
    go : (b : Bool) → occurs x (rows_with c (suc r) ws) ≡ 0 → occurs x (keep_if b r (rows_with c (suc r) ws)) ≡ 0
    go true h = occurs-other x r (rows_with c (suc r) ws) (λ e. omega arith) ∙ h
    go false h = h

rows-occurs : (c r : ℕ) (ws : List ℕ) (j : ℕ) → occurs (r + j) (rows_with c r ws) ≡ bit c (get_or ws j 0)
unfolding rows_with
rows-occurs c r [] j = sym (bit-none c)
rows-occurs c r (w ∷ ws) zero =
    let e : r + 0 ≡ r = omega arith in
    rw e (go (bit-cases c w) (rows-below c (suc r) ws r (omega arith)))
  where
    go : (bit c w ≡ 0) ⊎ (bit c w ≡ 1) → occurs r (rows_with c (suc r) ws) ≡ 0 → occurs r (keep_if (eqb (bit c w) 1) r (rows_with c (suc r) ws)) ≡ bit c w
    go (inl e) h = rw e h
    go (inr e) h = rw e (occurs-same r (rows_with c (suc r) ws) ∙ ap suc h)
rows-occurs c r (w ∷ ws) (suc j) =
    let e : r + suc j ≡ suc r + j = omega arith in
    rw e (go (eqb (bit c w) 1) (rows-occurs c (suc r) ws j))
  where
    go : (b : Bool) → occurs (suc r + j) (rows_with c (suc r) ws) ≡ bit c (get_or ws j 0)
        → occurs (suc r + j) (keep_if b r (rows_with c (suc r) ws)) ≡ bit c (get_or ws j 0)
    go true h = occurs-other (suc r + j) r (rows_with c (suc r) ws) (λ e. omega arith) ∙ h
    go false h = h

-- ---- the positions of a round

from-occurs : (k : ℕ) (ws : List ℕ) (p n j : ℕ) → visits k (get_or ws j 0) p + occurs j (visits_from k ws p n) ≡ visits k (get_or ws j 0) (p + n)
unfolding visits_from visits visit
from-occurs k ws p zero j = let e : p + 0 ≡ p = omega arith in rw e (omega arith)
from-occurs k ws p (suc n) j =
    let e : p + suc n ≡ suc p + n = omega arith in
    let z : 0 + j ≡ j = omega arith in
    let here : occurs j (rows_with (column_at k (suc p)) 0 ws) ≡ bit (column_at k (suc p)) (get_or ws j 0)
    = rw z at (rows-occurs (column_at k (suc p)) 0 ws j) in
    rw e
    (omega (arith, occurs_append j (rows_with (column_at k (suc p)) 0 ws) (visits_from k ws (suc p) n), from-occurs k ws (suc p) n j))

-- ---- a whole round

-- each weight is below 2 to the order of all
pub weight-below : (ws : List ℕ) (j : ℕ) → get_or ws j 0 < 2 ^ order_all ws
unfolding order_all
weight-below [] j = omega arith
weight-below (w ∷ ws) zero = lt_of_lt_of_le (order_lt w) (pow_mono (le-max_left (order w) (order_all ws)))
weight-below (w ∷ ws) (suc j) = lt_of_lt_of_le (weight-below ws j) (pow_mono (le-max_right (order w) (order_all ws)))

-- each row is visited as often as its weight
pub round-occurs : (ws : List ℕ) (j : ℕ) → occurs j (round_of ws) ≡ get_or ws j 0
unfolding round_of visits
round-occurs ws j =
    let k = order_all ws in
    let z : 0 + (2 ^ k - 1) ≡ 2 ^ k - 1 = omega arith in
    omega (arith, rw z at (from-occurs k ws 0 (2 ^ k - 1) j), visits-round k (get_or ws j 0) (weight-below ws j))

-- ---- how many there are

abbrev sum_of : (ℕ → ℕ) → List ℕ → ℕ
sum_of f [] = 0
sum_of f (w ∷ ws) = f w + sum_of f ws

sum_add : (f g : ℕ → ℕ) (ws : List ℕ) → sum_of f ws + sum_of g ws ≡ sum_of (λ w. f w + g w) ws
sum_add f g [] = omega arith
sum_add f g (w ∷ ws) = omega (arith, sum_add f g ws)

sum-zero : (ws : List ℕ) → sum_of (λ w. 0) ws ≡ 0
sum-zero [] = refl
sum-zero (w ∷ ws) = omega (arith, sum-zero ws)

rows-length : (c r : ℕ) (ws : List ℕ) → length (rows_with c r ws) ≡ sum_of (bit c) ws
unfolding rows_with
rows-length c r [] = refl
rows-length c r (w ∷ ws) = go (bit-cases c w) (rows-length c (suc r) ws)
  where
    go : (bit c w ≡ 0) ⊎ (bit c w ≡ 1) → length (rows_with c (suc r) ws) ≡ sum_of (bit c) ws
        → length (keep_if (eqb (bit c w) 1) r (rows_with c (suc r) ws)) ≡ bit c w + sum_of (bit c) ws
    go (inl e) h = rw e (omega arith)
    go (inr e) h = rw e (omega arith)

from-length : (k : ℕ) (ws : List ℕ) (p n : ℕ)
    → sum_of (λ w. visits k w p) ws + length (visits_from k ws p n) ≡ sum_of (λ w. visits k w (p + n)) ws
unfolding visits_from visits visit
from-length k ws p zero = let e : p + 0 ≡ p = omega arith in rw e (omega arith)
from-length k ws p (suc n) =
    let e : p + suc n ≡ suc p + n = omega arith in
    let s : sum_of (λ w. visits k w p) ws + sum_of (bit (column_at k (suc p))) ws ≡ sum_of (λ w. visits k w (suc p)) ws
    = sum_add (λ w. visits k w p) (bit (column_at k (suc p))) ws in
    rw e
    (omega (
      arith,
      length-append (rows_with (column_at k (suc p)) 0 ws) (visits_from k ws (suc p) n),
      rows-length (column_at k (suc p)) 0 ws,
      from-length k ws (suc p) n,
    ))

sum-round : (k n : ℕ) (ws : List ℕ) → n ≡ 2 ^ k - 1 → ((j : ℕ) → get_or ws j 0 < 2 ^ k) → sum_of (λ w. visits k w n) ws ≡ sum ws
unfolding sum
sum-round k n [] e h = refl
sum-round k n (w ∷ ws) e h =
    let v : visits k w n ≡ w = rw e (visits-round k w (h 0)) in
    omega (arith, sum-round k n ws e (λ j. h (suc j)))

-- a round has as many visits as the sum of the weights
pub round-length : (ws : List ℕ) → length (round_of ws) ≡ sum ws
unfolding round_of visits
round-length ws =
    let k = order_all ws in
    let z : 0 + (2 ^ k - 1) ≡ 2 ^ k - 1 = omega arith in
    omega (arith, from-length k ws 0 (2 ^ k - 1), sum-zero ws, sum-round k (0 + (2 ^ k - 1)) ws z (weight-below ws))
