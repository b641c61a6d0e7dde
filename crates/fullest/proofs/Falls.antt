-- Lists whose keys fall. Such a list is determined by its members: of two, one of which has all members of the other, the other is no longer, and the
-- same where it is as long.
use Prim.Native.Nat.{ℕ, zero, suc, ◌≤◌, ◌<◌}
use mathlib.Core.Path.{◌≡◌, refl, sym, ap, ◌∙◌}
use mathlib.Core.Bool.{Bool, true, false}
use mathlib.Core.List.{List, [], ◌∷◌}
use native.Mathlib.Omega.{arith}
use lib.Dec.{leb}
use lib.ListN.{length, get_or, take}
use borrow.Author.Tests.{leb-false, le-leb, lt-leb}
use Rattle.lists.specs.Slots.{occurs, keep_if, keep}
use Rattle.lists.proofs.SlotsLaws.{if_eq, occurs-same, occurs-other}

-- each key is below the one before it, the first below m
abbrev pub Falls : (ℕ → ℕ) → ℕ → List ℕ → Type 0
Falls k m [] = Unit {0}
Falls k m (x ∷ xs) = (k x < m) × Falls k (k x) xs

module _ (k : ℕ → ℕ) where
  pub falls_below : (m n : ℕ) (xs : List ℕ) → m ≤ n → Falls k m xs → Falls k n xs
  falls_below m n [] l h = tt
  falls_below m n (x ∷ xs) l (h, t) = (omega arith, t)

  falls-keep_if : (b : Bool) (m x : ℕ) (xs : List ℕ) → k x < m → Falls k (k x) xs → Falls k m (keep_if b x xs)
  falls-keep_if true m x xs l h = (l, h)
  falls-keep_if false m x xs l h = falls_below (k x) m xs (omega arith) h

  pub falls-keep : (p : ℕ → Bool) (m : ℕ) (xs : List ℕ) → Falls k m xs → Falls k m (keep p xs)
  falls-keep p m [] h = tt
  falls-keep p m (x ∷ xs) (h, t) = falls-keep_if (p x) m x (keep p xs) h (falls-keep p (k x) xs t)

  pub falls-take : (n m : ℕ) (xs : List ℕ) → Falls k m xs → Falls k m (take n xs)
  falls-take zero m xs h = tt
  falls-take (suc n) m [] h = tt
  falls-take (suc n) m (x ∷ xs) (h, t) = (h, falls-take n (k x) xs t)

  -- a member's key is below m
  pub falls_at : (m j : ℕ) (xs : List ℕ) → Falls k m xs → 1 ≤ occurs j xs → k j < m
  falls_at m j [] h o = absurd (omega arith)
  falls_at m j (x ∷ xs) (h, t) o =
      if_eq j x (λ e. rw e h) (λ d. let in_rest : k j < k x = falls_at (k x) j xs t (omega (arith, occurs-other j x xs d)) in omega arith)

  -- the one at place n has the least key of the first n + 1
  pub falls-last : (m n j : ℕ) (xs : List ℕ) → Falls k m xs → length xs ≡ suc n → 1 ≤ occurs j xs → k (get_or xs n 0) ≤ k j
  falls-last m n j [] h e o = absurd (omega arith)
  falls-last m zero j (x ∷ []) h e o = if_eq j x (λ e. rw e (omega arith)) (λ d. absurd (omega (arith, occurs-other j x [] d)))
  falls-last m zero j (x ∷ y ∷ xs) h e o = absurd (omega arith)
  falls-last m (suc n) j (x ∷ []) h e o = absurd (omega arith)
  falls-last m (suc n) j (x ∷ y ∷ xs) (h, t) e o =
      if_eq j x
      (λ e'. rw e' (let low = falls-last (k x) n y (y ∷ xs) t (omega arith) (omega (arith, occurs-same y xs)) in let (l, s) = t in omega arith))
      (λ d. falls-last (k x) n j (y ∷ xs) t (omega arith) (omega (arith, occurs-other j x (y ∷ xs) d)))

  -- xs has no more members than ys, and is ys where it has as many
  pub falls_fit : (m n : ℕ) (xs ys : List ℕ) → Falls k m xs → Falls k n ys → ((j : ℕ) → 1 ≤ occurs j xs → 1 ≤ occurs j ys)
      → (length xs ≤ length ys) × (length xs ≡ length ys → xs ≡ ys)
  falls_fit m n [] [] f g h = (omega arith, λ e. refl)
  falls_fit m n (x ∷ xs) [] f g h = absurd (omega (arith, h x (omega (arith, occurs-same x xs))))
  falls_fit m n [] (y ∷ ys) f g h = (omega arith, λ e. absurd (omega arith))
  falls_fit m n (x ∷ xs) (y ∷ ys) (f, fs) (g, gs) h =
      if_eq x y
      (λ e.
      let inside : (j : ℕ) → 1 ≤ occurs j xs → 1 ≤ occurs j ys
      = λ j o.
      let less : k j < k x = falls_at (k x) j xs fs o in
      let other : j ≡ y → ⊥ = λ q. let r : k j ≡ k x = ap k (q ∙ sym e) in omega arith in
      omega (arith, h j (omega arith), occurs-other j y ys other) in
      let (l, q) = falls_fit (k x) (k y) xs ys fs gs inside in
      (omega arith, λ s. rw e (ap (λ (zs : List ℕ). y ∷ zs) (q (omega arith)))))
      (λ d.
      let there : 1 ≤ occurs x ys = omega (arith, h x (omega (arith, occurs-same x xs)), occurs-other x y ys d) in
      let low : k x < k y = falls_at (k y) x ys gs there in
      let inside : (j : ℕ) → 1 ≤ occurs j (x ∷ xs) → 1 ≤ occurs j ys
      = λ j o.
      let less : k j < suc (k x) = falls_at (suc (k x)) j (x ∷ xs) (omega arith, fs) o in
      let other : j ≡ y → ⊥ = λ q. let r : k j ≡ k y = ap k q in omega arith in
      omega (arith, h j o, occurs-other j y ys other) in
      let (l, q) = falls_fit m (k y) (x ∷ xs) ys (f, fs) gs inside in
      (omega arith, λ s. absurd (omega arith)))

  -- ---- those with a key of at least t

  abbrev pub up_to : ℕ → ℕ → Bool
  up_to t i = leb t (k i)

  pub up_to-none : (t : ℕ) (xs : List ℕ) → Falls k t xs → keep (up_to t) xs ≡ []
  up_to-none t [] h = refl
  up_to-none t (x ∷ xs) (h, s) = rw (lt-leb t (k x) h) (up_to-none t xs (falls_below (k x) t xs (omega arith) s))

  -- they are the first ones
  pub up_to-first : (t m : ℕ) (xs : List ℕ) → Falls k m xs → keep (up_to t) xs ≡ take (length (keep (up_to t) xs)) xs
  up_to-first t m [] h = refl
  up_to-first t m (x ∷ xs) (h, s) = go (leb t (k x)) refl (up_to-first t (k x) xs s)
    where
      go : (b : Bool) → leb t (k x) ≡ b → keep (up_to t) xs ≡ take (length (keep (up_to t) xs)) xs
          → keep_if b x (keep (up_to t) xs) ≡ take (length (keep_if b x (keep (up_to t) xs))) (x ∷ xs)
      go true e q = ap (λ (zs : List ℕ). x ∷ zs) q
      go false e q = rw (up_to-none t xs (falls_below (k x) t xs (omega (arith, leb-false t (k x) e)) s)) refl

  pub occurs-place : (n : ℕ) (xs : List ℕ) → n < length xs → 1 ≤ occurs (get_or xs n 0) xs
  occurs-place n [] l = absurd (omega arith)
  occurs-place zero (x ∷ xs) l = omega (arith, occurs-same x xs)
  occurs-place (suc n) (x ∷ xs) l = omega (arith, occurs-place n xs (omega arith))

  -- n + 1 have at least the key of the one at place n
  pub up_to-place : (n m : ℕ) (xs : List ℕ) → Falls k m xs → n < length xs → length (keep (up_to (k (get_or xs n 0))) xs) ≡ suc n
  up_to-place n m [] h l = absurd (omega arith)
  up_to-place zero m (x ∷ xs) (h, s) l = rw (le-leb (k x) (k x) (omega arith), up_to-none (k x) xs s) refl
  up_to-place (suc n) m (x ∷ xs) (h, s) l =
      let low : k (get_or xs n 0) < k x = falls_at (k x) (get_or xs n 0) xs s (occurs-place n xs (omega arith)) in
      rw (le-leb (k (get_or xs n 0)) (k x) (omega arith)) (ap suc (up_to-place n (k x) xs s (omega arith)))
