-- The sheet's row numbers as slots: its columns are the columns of the rules, its order is theirs; and slots as row numbers: in rows that list no slot twice
-- each slot has one number.
use Prim.Native.Nat.{ℕ, zero, suc, ◌+◌, ◌≤◌, ◌<◌, max}
use mathlib.Core.Path.{◌≡◌, refl, sym, ap, ap₂, ◌∙◌}
use mathlib.Core.Bool.{Bool, true, false}
use mathlib.Core.List.{List, [], ◌∷◌, ◌++◌, map}
use native.Mathlib.Nat.{add-zero, zero-add}
use native.Mathlib.Decide.{dec_lt}
use native.Mathlib.Omega.{arith}
use lib.Dec.{eqb}
use lib.ListN.{length, get_or, length-map, get_or-eq_default}
use borrow.Author.Tests.{eq-eqb, ne_eqb}
use Rattle.bits.specs.Bit.{bit}
use Rattle.bits.specs.Order.{order}
use Rattle.lists.specs.Slots.{occurs, Once, NoneFrom, keep_if}
use Rattle.lists.proofs.SlotsLaws.{occurs-same, occurs-tail}
use Rattle.lists.proofs.TabLaws.{map_append}
use Rattle.spread.specs.Visits.{column_at}
use Rattle.spread.specs.Round.{order_all, rows_with, visits_from, round_of}
use Rattle.spread.proofs.RoundLaws.{round-occurs}
use Rattle.spread.proofs.RoundSteps.{visits-last}
use Rattle.rules.specs.State.{order_of, column_of}
use Rattle.promises.specs.Sheets.{slots_of, row_of, row_numbers}

-- ---- row numbers as slots

pub order_sheet : (f : ℕ → ℕ) (rs : List ℕ) → order_all (map f rs) ≡ order_of f rs
unfolding order_all order_of
order_sheet f [] = refl
order_sheet f (r ∷ rs) = ap (λ (k : ℕ). max (order (f r)) k) (order_sheet f rs)

-- rs are the rows from number r on, of all
column_sheet : (f : ℕ → ℕ) (all : List ℕ) (c r : ℕ) (rs : List ℕ) → ((j : ℕ) → get_or all (r + j) 0 ≡ get_or rs j 0)
    → slots_of all (rows_with c r (map f rs)) ≡ column_of f rs c
unfolding rows_with column_of
column_sheet f all c r [] h = refl
column_sheet f all c r (x ∷ rs) h =
    go (eqb (bit c (f x)) 1) (column_sheet f all c (suc r) rs (λ j. ap (λ (n : ℕ). get_or all n 0) (omega arith) ∙ h (suc j)))
    (ap (λ (n : ℕ). get_or all n 0) (sym (add-zero r)) ∙ h 0)
  where
    go : (b : Bool) → slots_of all (rows_with c (suc r) (map f rs)) ≡ column_of f rs c → get_or all r 0 ≡ x
        → slots_of all (keep_if b r (rows_with c (suc r) (map f rs))) ≡ keep_if b x (column_of f rs c)
    go true later e = ap₂ (λ (a : ℕ) (l : List ℕ). a ∷ l) e later
    go false later e = later

-- one position more is the column that it scans
pub sheet_term : (f : ℕ → ℕ) (rs : List ℕ) (k p : ℕ)
    → slots_of rs (visits_from k (map f rs) 0 (suc p)) ≡ slots_of rs (visits_from k (map f rs) 0 p) ++ column_of f rs (column_at k (suc p))
sheet_term f rs k p =
    let z : 0 + p ≡ p = omega arith in
    ap (slots_of rs) (rw z at (visits-last k (map f rs) 0 p))
    ∙ map_append (λ (r : ℕ). get_or rs r 0) (visits_from k (map f rs) 0 p) (rows_with (column_at k (suc p)) 0 (map f rs))
    ∙ ap (λ (l : List ℕ). slots_of rs (visits_from k (map f rs) 0 p) ++ l)
    (column_sheet f rs (column_at k (suc p)) 0 rs (λ j. ap (λ (n : ℕ). get_or rs n 0) (zero-add j)))

-- ---- slots as row numbers

slot-occurs : (rs : List ℕ) (r : ℕ) → r < length rs → 1 ≤ occurs (get_or rs r 0) rs
slot-occurs [] r l = absurd (omega arith)
slot-occurs (x ∷ rs) zero l = rw (occurs-same x rs) (omega arith)
slot-occurs (x ∷ rs) (suc r) l = omega (arith, slot-occurs rs r (omega arith), occurs-tail (get_or rs r 0) x rs)

later-once : (x : ℕ) (rs : List ℕ) → Once (x ∷ rs) → Once rs
later-once x rs o i = omega (arith, o i, occurs-tail i x rs)

row-slot : (rs : List ℕ) → Once rs → (r : ℕ) → r < length rs → row_of rs (get_or rs r 0) ≡ r
unfolding row_of
row-slot [] o r l = absurd (omega arith)
row-slot (x ∷ rs) o zero l = rw (eq-eqb x x refl) refl
row-slot (x ∷ rs) o (suc r) l =
    let there : 1 ≤ occurs (get_or rs r 0) rs = slot-occurs rs r (omega arith) in
    let apart : get_or rs r 0 ≡ x → ⊥ = λ e. let twice : 1 ≤ occurs x rs = rw (← e) there in omega (arith, o x, occurs-same x rs) in
    rw (ne_eqb (get_or rs r 0) x apart) (ap suc (row-slot rs (later-once x rs o) r (omega arith)))

numbers-back : (rs : List ℕ) → Once rs → (ns : List ℕ) → NoneFrom (length rs) ns → row_numbers rs (slots_of rs ns) ≡ ns
numbers-back rs o [] h = refl
numbers-back rs o (n ∷ ns) h =
    let l : n < length rs =
    elim (dec_lt n (length rs)) [
      | yes m ↦ m
      | no m ↦ absurd (omega (arith, h n (omega arith), occurs-same n ns))
    ]
    in
    ap₂ (λ (a : ℕ) (b : List ℕ). a ∷ b) (row-slot rs o n l) (numbers-back rs o ns (λ i g. omega (arith, h i g, occurs-tail i n ns)))

-- a sheet's own numbers are below the number of rows, so they come back
pub sheet_numbers : (f : ℕ → ℕ) (rs : List ℕ) → Once rs → row_numbers rs (slots_of rs (round_of (map f rs))) ≡ round_of (map f rs)
sheet_numbers f rs o =
    numbers-back rs o (round_of (map f rs))
    (λ i l. round-occurs (map f rs) i ∙ get_or-eq_default (map f rs) 0 (rw (length-map rs f) l))
