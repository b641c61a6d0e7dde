-- A round's visits position by position; and in an order held above the rows' own (02 §3) they are the same: every second position scans a column that no row
-- stands in, and the others are those of the order below.
use Prim.Native.Nat.{ℕ, zero, suc, ◌+◌, ◌-◌, ◌/◌, ◌^◌, ◌≤◌}
use mathlib.Core.Path.{◌≡◌, refl, sym, ap, ◌∙◌}
use mathlib.Core.List.{List, [], ◌∷◌, ◌++◌, append-nil, append_assoc}
use native.Mathlib.Decide.{le_ind}
use native.Mathlib.Omega.{arith}
use lib.Pow.{pow_pos}
use Rattle.bits.specs.Bit.{bit}
use Rattle.bits.proofs.OrderLaws.{order-above}
use Rattle.spread.specs.Sequence.{term}
use Rattle.spread.specs.Visits.{column_at}
use Rattle.spread.specs.Round.{order_all, rows_with, visits_from, round_of}
use Rattle.spread.proofs.Rule.{term_even}
use Rattle.spread.proofs.Visits.{top-column}

-- one position more
pub visits-last : (k : ℕ) (ws : List ℕ) (p n : ℕ) → visits_from k ws p (suc n) ≡ visits_from k ws p n ++ rows_with (column_at k (suc (p + n))) 0 ws
unfolding visits_from
visits-last k ws p zero = let e : p + 0 ≡ p = omega arith in rw e (append-nil (rows_with (column_at k (suc p)) 0 ws))
visits-last k ws p (suc n) =
    let e : suc p + n ≡ p + suc n = omega arith in
    ap (λ (l : List ℕ). rows_with (column_at k (suc p)) 0 ws ++ l) (rw e at (visits-last k ws (suc p) n))
    ∙ sym (append_assoc (rows_with (column_at k (suc p)) 0 ws) (visits_from k ws (suc p) n) (rows_with (column_at k (suc (p + suc n))) 0 ws))

-- ---- the order above

-- no row has a bit at or above the order
none_above : (c r : ℕ) (ws : List ℕ) → order_all ws ≤ c → rows_with c r ws ≡ []
unfolding order_all rows_with
none_above c r [] l = refl
none_above c r (w ∷ ws) l = let z : bit c w ≡ 0 = order-above w c (omega arith) in rw z (none_above c (suc r) ws (omega arith))

-- of the order one larger the odd positions scan its own column, the even ones are the positions of this order
odd-column : (k p : ℕ) → column_at (suc k) (suc (p + p)) ≡ k
odd-column k p = top-column (suc k) (suc (p + p)) (omega arith) ∙ omega arith

even_column : (k p : ℕ) → column_at (suc k) (suc (suc (p + p))) ≡ column_at k (suc p)
unfolding column_at
even_column k p =
    let h : suc (suc (p + p)) / 2 ≡ suc p = omega arith in
    let e : term (suc (suc (p + p))) ≡ suc (term (suc p)) = term_even (suc (suc (p + p))) (omega arith) (omega arith) ∙ ap (λ (q : ℕ). suc (term q)) h in
    rw e (omega arith)

twice : (k : ℕ) (ws : List ℕ) (p n : ℕ) → order_all ws ≤ k → visits_from (suc k) ws (suc (p + p)) (n + n) ≡ visits_from k ws p n
unfolding visits_from
twice k ws p zero l = refl
twice k ws p (suc n) l =
    let m : suc n + suc n ≡ suc (suc (n + n)) = omega arith in
    let q : suc (suc (suc (p + p))) ≡ suc (suc p + suc p) = omega arith in
    let none : rows_with (column_at (suc k) (suc (suc p + suc p))) 0 ws ≡ [] =
    ap (λ (c : ℕ). rows_with c 0 ws) (odd-column k (suc p)) ∙ none_above k 0 ws l
    in
    rw (m, even_column k p, q, none) (ap (λ (x : List ℕ). rows_with (column_at k (suc p)) 0 ws ++ x) (twice k ws (suc p) n l))

one-above : (k : ℕ) (ws : List ℕ) → order_all ws ≤ k → visits_from (suc k) ws 0 (2 ^ suc k - 1) ≡ visits_from k ws 0 (2 ^ k - 1)
unfolding visits_from
one-above k ws l =
    let n = 2 ^ k - 1 in
    let m : 2 ^ suc k - 1 ≡ suc (n + n) = omega (arith, pow_pos k) in
    let none : rows_with (column_at (suc k) 1) 0 ws ≡ [] = ap (λ (c : ℕ). rows_with c 0 ws) (odd-column k 0) ∙ none_above k 0 ws l in
    rw (m, none) (twice k ws 0 n l)

-- so the order held for the round does not change who is visited, nor when
pub round-held : (ws : List ℕ) (k : ℕ) → order_all ws ≤ k → visits_from k ws 0 (2 ^ k - 1) ≡ round_of ws
unfolding round_of
round-held ws k l =
    le_ind (λ (j : ℕ). visits_from j ws 0 (2 ^ j - 1) ≡ visits_from (order_all ws) ws 0 (2 ^ order_all ws - 1)) refl
    (λ j h ih. one-above j ws h ∙ ih) k l
