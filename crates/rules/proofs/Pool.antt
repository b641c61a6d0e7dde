-- The use of the shared cells, as one slot's channel changes; and what the limits promise: all waiting records have a cell.
use Prim.Native.Nat.{ℕ, zero, suc, ◌+◌, ◌*◌, ◌≤◌, ◌<◌}
use mathlib.Core.Path.{◌≡◌, refl, ap}
use mathlib.Core.Bool.{Bool, true, false, ◌&&◌, true≢false}
use mathlib.Core.List.{List, [], ◌∷◌, ◌++◌}
use native.Mathlib.Omega.{arith}
use lib.Dec.{leb, eqb}
use lib.ListN.{length, set}
use borrow.Author.Tests.{leb-true, leb-false, eqb-false}
use Rattle.rules.specs.Numbers.{kept, shared, cells}
use Rattle.rules.specs.State.{Channel, State, at, beyond, shared_use, all_waiting}
use Rattle.rules.specs.Calls.{no_cell}
use Rattle.rules.specs.Facts.{Stage, SoundTo}

-- ---- another channel in slot i

pub shared-set : (cs : List Channel) (i : ℕ) (c : Channel) → i < length cs → shared_use (set cs i c) + beyond (at cs i) ≡ shared_use cs + beyond c
unfolding shared_use
shared-set [] i c l = absurd (omega arith)
shared-set (d ∷ cs) zero c l = omega arith
shared-set (d ∷ cs) (suc i) c l = let e = shared-set cs i c (omega arith) in omega arith

-- one that has no more records than the slot has keeps the limit
pub shared-fewer : (cs : List Channel) (i : ℕ) (c : Channel) → i < length cs → length c.waiting ≤ length (at cs i).waiting → shared_use cs ≤ shared
    → shared_use (set cs i c) ≤ shared
shared-fewer cs i c l h p = omega (arith, shared-set cs i c l)

-- and so does one with one record more, unless the slot has two or more and the sum is 384
pub shared_added : (cs : List Channel) (i : ℕ) (c : Channel) → i < length cs → length c.waiting ≡ length (at cs i).waiting + 1 → shared_use cs ≤ shared
    → no_cell (at cs i) (shared_use cs) ≡ false → shared_use (set cs i c) ≤ shared
shared_added cs i c l longer p q = go (leb kept (length (at cs i).waiting)) refl (eqb (shared_use cs) shared) refl q
  where
    below : (n : ℕ) → n ≤ shared → (n ≡ shared → ⊥) → n < shared
    below n m d = omega arith

    go : (b : Bool) → leb kept (length (at cs i).waiting) ≡ b → (u : Bool) → eqb (shared_use cs) shared ≡ u → (b && u) ≡ false → shared_use (set cs i c) ≤ shared
    go true h true g z = absurd (true≢false z)
    go true h false g z =
        omega (arith, leb-true kept (length (at cs i).waiting) h, below (shared_use cs) p (eqb-false (shared_use cs) shared g), shared-set cs i c l)
    go false h u g z = omega (arith, leb-false kept (length (at cs i).waiting) h, shared-set cs i c l)

pub shared_append : (cs ds : List Channel) → shared_use (cs ++ ds) ≡ shared_use cs + shared_use ds
unfolding shared_use
shared_append [] ds = omega arith
shared_append (c ∷ cs) ds = let e = shared_append cs ds in omega arith

-- ---- all that wait

pub waiting-most : (cs : List Channel) → all_waiting cs ≤ length cs * kept + shared_use cs
unfolding all_waiting shared_use
waiting-most [] = omega arith
waiting-most (c ∷ cs) = let m = waiting-most cs in omega arith

-- "Hold all records in 512 shared cells"
pub cells-enough : {t : Stage} {s : State} → SoundTo t s → all_waiting s.channels ≤ cells
cells-enough {t} {s} S = omega (arith, waiting-most s.channels, ap (λ (n : ℕ). n * kept) S.size, S.pool)
