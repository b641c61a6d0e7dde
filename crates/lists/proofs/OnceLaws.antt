-- Lists that have each slot at most once: a part of one has, too, and such a part can be told by a test.
use Prim.Native.Nat.{ℕ, zero, suc, ◌≤◌, ◌<◌}
use mathlib.Core.Path.{◌≡◌, refl, sym, ap, ◌∙◌, subst}
use mathlib.Core.Bool.{Bool, true, false}
use mathlib.Core.List.Sublistᴰ
use mathlib.Core.List.{List, [], ◌∷◌}
use native.Mathlib.Omega.{arith}
use native.Mathlib.Nat.{le_trans}
use lib.Dec.{leb, eqb}
use borrow.Author.Tests.{leb-true, leb-false}
use Rattle.lists.specs.Tabs.{Below}
use Rattle.lists.specs.Slots.{occurs, Once, NoneFrom, keep, Part}
use Rattle.lists.proofs.SlotsLaws.{occurs-same, occurs-other, occurs-tail, occurs-part}

pub once-part : {xs ys : List ℕ} → Part xs ys → Once ys → Once xs
once-part p once i = le_trans (occurs-part i p) (once i)

pub none-part : (n : ℕ) {xs ys : List ℕ} → Part xs ys → NoneFrom n ys → NoneFrom n xs
none-part n p none i l = omega (arith, occurs-part i p, none i l)

-- ---- numbers below n

pub none_below : (n : ℕ) (xs : List ℕ) → 0 < n → NoneFrom n xs → Below n xs
none_below n [] pos none i = pos
none_below n (x ∷ xs) pos none zero = go (leb n x) refl
  where
    go : (b : Bool) → leb n x ≡ b → x < n
    go true e = absurd (omega (arith, none x (leb-true n x e), occurs-same x xs))
    go false e = leb-false n x e
none_below n (x ∷ xs) pos none (suc i) = none_below n xs pos (λ j l. omega (arith, none j l, occurs-tail j x xs)) i

-- ---- a part told by a test

-- where a test passes those rows that are in the part, and no other row, it keeps the part
pub keep-is-part : (p : ℕ → Bool) {xs ys : List ℕ} → Part xs ys → Once ys → ((i : ℕ) → 1 ≤ occurs i ys → p i ≡ eqb (occurs i xs) 1) → keep p ys ≡ xs
keep-is-part p Sublistᴰ.slnil once h = refl
keep-is-part p (Sublistᴰ.cons {a = a} {l₁ = xs} {l₂ = ys} d) once h =
    let same = occurs-same a ys in
    let out : occurs a xs ≡ 0 = omega (arith, occurs-part a d, once a) in
    let here : p a ≡ false = h a (omega arith) ∙ rw out in
    rw here
    (keep-is-part p d (λ i. le_trans (occurs-tail i a ys) (once i)) (λ i l. h i (le_trans l (occurs-tail i a ys))))
keep-is-part p (Sublistᴰ.cons-cons {a = a} {b = b} {l₁ = xs} {l₂ = ys} e d) once h =
    let once' : Once (a ∷ ys) = subst (λ (x : ℕ). Once (x ∷ ys)) (sym e) once in
    let h' : (i : ℕ) → 1 ≤ occurs i (a ∷ ys) → p i ≡ eqb (occurs i (a ∷ xs)) 1
    = subst (λ (x : ℕ). (i : ℕ) → 1 ≤ occurs i (x ∷ ys) → p i ≡ eqb (occurs i (a ∷ xs)) 1) (sym e) h in
    let same = occurs-same a ys in
    let also = occurs-same a xs in
    let one : occurs a (a ∷ xs) ≡ 1 = omega (arith, occurs-part a d, once' a) in
    let here : p a ≡ true = h' a (omega arith) ∙ rw one in
    let rest : keep p ys ≡ xs
    = keep-is-part p d (λ i. le_trans (occurs-tail i a ys) (once' i))
    (λ i l.
    h' i (le_trans l (occurs-tail i a ys))
    ∙ ap (λ (n : ℕ). eqb n 1) (occurs-other i a xs (λ q. let m : 1 ≤ occurs a ys = rw (← q) l in omega (arith, once' a)))) in
    subst (λ (x : ℕ). keep p (x ∷ ys) ≡ a ∷ xs) e (rw (here, rest))
