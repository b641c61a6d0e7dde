-- The slots in the dispatchers' order: each slot once, and their keys fall.
use Prim.Native.Nat.{ℕ, zero, suc, ◌+◌, ◌≤◌, ◌<◌}
use mathlib.Core.Path.{◌≡◌, refl, ◌∙◌}
use mathlib.Core.Bool.{Bool, true, false, cond, ◌&&◌, ◌||◌}
use mathlib.Core.List.{List, [], ◌∷◌}
use native.Mathlib.Omega.{arith}
use lib.Dec.{ltb, eqb}
use lib.ListN.{length}
use borrow.Author.Tests.{eq-eqb, ltb-true, ltb-false}
use Rattle.lists.specs.Slots.{one_if, occurs, keep_if, keep}
use Rattle.lists.proofs.SlotsLaws.{if_eq, occurs-other}
use Rattle.rules.specs.Fullest.{ahead, inserted, ranked}
use Rattle.rules.proofs.Ranked.{Under, under-ranked}
use Rattle.fullest.specs.Keys.{key, above}
use Rattle.fullest.proofs.Falls.{Falls, up_to}

-- ---- a slot put in

length-keep_if : (b : Bool) (x : ℕ) (xs : List ℕ) → length (keep_if b x xs) ≡ one_if b + length xs
length-keep_if true x xs = omega arith
length-keep_if false x xs = omega arith

pub length_inserted : (p : ℕ → Bool) (f : ℕ → ℕ) (i : ℕ) (xs : List ℕ) → length (keep p (inserted f i xs)) ≡ one_if (p i) + length (keep p xs)
unfolding inserted
length_inserted p f i [] = length-keep_if (p i) i []
length_inserted p f i (x ∷ xs) = go (ahead f i x) (length_inserted p f i xs)
  where
    go : (b : Bool) → length (keep p (inserted f i xs)) ≡ one_if (p i) + length (keep p xs)
        → length (keep p (cond b (i ∷ x ∷ xs) (x ∷ inserted f i xs))) ≡ one_if (p i) + length (keep p (x ∷ xs))
    go true q = length-keep_if (p i) i (keep p (x ∷ xs))
    go false q =
        omega (arith, length-keep_if (p x) x (keep p (inserted f i xs)), length-keep_if (p x) x (keep p xs))

pub occurs-inserted : (f : ℕ → ℕ) (j i : ℕ) (xs : List ℕ) → occurs j (inserted f i xs) ≡ one_if (eqb j i) + occurs j xs
unfolding inserted
occurs-inserted f j i [] = refl
occurs-inserted f j i (x ∷ xs) = go (ahead f i x) (occurs-inserted f j i xs)
  where
    go : (b : Bool) → occurs j (inserted f i xs) ≡ one_if (eqb j i) + occurs j xs
        → occurs j (cond b (i ∷ x ∷ xs) (x ∷ inserted f i xs)) ≡ one_if (eqb j i) + occurs j (x ∷ xs)
    go true q = refl
    go false q = omega arith

-- ---- keys

ahead-key : (f : ℕ → ℕ) (i j : ℕ) → ahead f i j ≡ true → j < i → i < 64 → key f j < key f i
ahead-key f i j e l h = go (ltb (f j) (f i)) refl e
  where
    late : (q : Bool) → (q && ltb i j) ≡ true → key f j < key f i
    late true r = absurd (omega (arith, ltb-true i j r))
    late false r = let z : ◌≡◌ {A = Bool} false true = r in absurd (let n : ◌≡◌ {A = ℕ} 0 1 = cc in omega arith)

    go : (q : Bool) → ltb (f j) (f i) ≡ q → (q || (eqb (f i) (f j) && ltb i j)) ≡ true → key f j < key f i
    go true p r = omega (arith, ltb-true (f j) (f i) p)
    go false p r = late (eqb (f i) (f j)) r

behind-key : (f : ℕ → ℕ) (i j : ℕ) → ahead f i j ≡ false → j < i → i < 64 → key f i < key f j
behind-key f i j e l h = go (ltb (f j) (f i)) refl e
  where
    go : (q : Bool) → ltb (f j) (f i) ≡ q → (q || (eqb (f i) (f j) && ltb i j)) ≡ false → key f i < key f j
    go true p r = absurd (let n : ◌≡◌ {A = ℕ} 0 1 = cc in omega arith)
    go false p r = omega (arith, ltb-false (f j) (f i) p)

falls-inserted : (f : ℕ → ℕ) (i m : ℕ) (xs : List ℕ) → i < 64 → key f i < m → Under i xs → Falls (key f) m xs → Falls (key f) m (inserted f i xs)
unfolding inserted
falls-inserted f i m [] l h u t = (h, tt)
falls-inserted f i m (x ∷ xs) l h (u, us) (t, ts) =
    go (ahead f i x) refl (λ q. falls-inserted f i (key f x) xs l q us ts)
  where
    go : (b : Bool) → ahead f i x ≡ b → (key f i < key f x → Falls (key f) (key f x) (inserted f i xs))
        → Falls (key f) m (cond b (i ∷ x ∷ xs) (x ∷ inserted f i xs))
    go true e q = (h, (ahead-key f i x e u l, ts))
    go false e q = (t, q (behind-key f i x e u l))

-- ---- all slots

pub falls-ranked : (f : ℕ → ℕ) (m n : ℕ) → n ≤ 64 → ((i : ℕ) → key f i < m) → Falls (key f) m (ranked f n)
unfolding ranked
falls-ranked f m zero l h = tt
falls-ranked f m (suc n) l h = falls-inserted f n m (ranked f n) (omega arith) (h n) (under-ranked f n) (falls-ranked f m n (omega arith) h)

pub occurs-ranked : (f : ℕ → ℕ) (j n : ℕ) → j < n → 1 ≤ occurs j (ranked f n)
unfolding ranked
occurs-ranked f j zero l = absurd (omega arith)
occurs-ranked f j (suc n) l =
    rw (occurs-inserted f j n (ranked f n))
    (if_eq j n (λ e. rw (eq-eqb j n e) (omega arith)) (λ d. omega (arith, occurs-ranked f j n (omega arith))))

pub occurs-under : (n j : ℕ) (xs : List ℕ) → Under n xs → 1 ≤ occurs j xs → j < n
occurs-under n j [] h o = absurd (omega arith)
occurs-under n j (x ∷ xs) (h, t) o = if_eq j x (λ e. rw e h) (λ d. occurs-under n j xs t (omega (arith, occurs-other j x xs d)))

-- how many slots have a key of at least t
pub above-ranked : (f : ℕ → ℕ) (t n : ℕ) → length (keep (up_to (key f) t) (ranked f n)) ≡ above f t n
unfolding ranked above
above-ranked f t zero = refl
above-ranked f t (suc n) =
    length_inserted (up_to (key f) t) f n (ranked f n) ∙ omega (arith, above-ranked f t n)
