-- The slots in the dispatchers' order: the list of the fullest holds at most five, all of them slots, and looks at the bytes of the slots alone.
use Prim.Native.Nat.{ℕ, zero, suc, ◌≤◌, ◌<◌}
use mathlib.Core.Path.{◌≡◌, refl, ap}
use mathlib.Core.Bool.{Bool, true, false, not, cond}
use mathlib.Core.List.{List, [], ◌∷◌}
use native.Mathlib.Omega.{arith}
use lib.Dec.{eqb}
use lib.ListN.{length, take, length-take}
use Rattle.lists.specs.Slots.{keep_if, keep}
use Rattle.lists.specs.Tabs.{Below}
use Rattle.rules.specs.Numbers.{slots, listed}
use Rattle.rules.specs.Fullest.{ahead, inserted, ranked, fullest_by}

-- every member is below n
abbrev pub Under : ℕ → List ℕ → Type 0
Under n [] = Unit {0}
Under n (x ∷ xs) = (x < n) × Under n xs

under_more : (n : ℕ) (xs : List ℕ) → Under n xs → Under (suc n) xs
under_more n [] h = tt
under_more n (x ∷ xs) (h, t) = (omega arith, under_more n xs t)

under-inserted : (f : ℕ → ℕ) (i n : ℕ) (xs : List ℕ) → i < n → Under n xs → Under n (inserted f i xs)
unfolding inserted
under-inserted f i n [] l h = (l, tt)
under-inserted f i n (x ∷ xs) l (h, t) = go (ahead f i x) (under-inserted f i n xs l t)
  where
    go : (b : Bool) → Under n (inserted f i xs) → Under n (cond b (i ∷ x ∷ xs) (x ∷ inserted f i xs))
    go true q = (l, (h, t))
    go false q = (h, q)

pub under-ranked : (f : ℕ → ℕ) (n : ℕ) → Under n (ranked f n)
unfolding ranked
under-ranked f zero = tt
under-ranked f (suc n) = under-inserted f n (suc n) (ranked f n) (omega arith) (under_more n (ranked f n) (under-ranked f n))

under-keep : (p : ℕ → Bool) (n : ℕ) (xs : List ℕ) → Under n xs → Under n (keep p xs)
under-keep p n [] h = tt
under-keep p n (x ∷ xs) (h, t) = go (p x) (under-keep p n xs t)
  where
    go : (b : Bool) → Under n (keep p xs) → Under n (keep_if b x (keep p xs))
    go true q = (h, q)
    go false q = q

under-take : (m n : ℕ) (xs : List ℕ) → Under n xs → Under n (take m xs)
under-take zero n xs h = tt
under-take (suc m) n [] h = tt
under-take (suc m) n (x ∷ xs) (h, t) = (h, under-take m n xs t)

under-below : (n : ℕ) (xs : List ℕ) → 0 < n → Under n xs → Below n xs
under-below n [] l h i = l
under-below n (x ∷ xs) l (h, t) zero = h
under-below n (x ∷ xs) l (h, t) (suc i) = under-below n xs l t i

-- ---- the list

pub fullest-few : (f : ℕ → ℕ) → length (fullest_by f) ≤ listed
unfolding fullest_by
fullest-few f = omega (arith, length-take listed (keep (λ i. not (eqb (f i) 0)) (ranked f slots)))

pub fullest-low : (f : ℕ → ℕ) → Below slots (fullest_by f)
unfolding fullest_by
fullest-low f =
    let kept = keep (λ i. not (eqb (f i) 0)) (ranked f slots) in
    under-below slots (take listed kept) (omega arith) (under-take listed slots kept (under-keep (λ i. not (eqb (f i) 0)) slots (ranked f slots) (under-ranked f slots)))

-- ---- the same bytes in every slot give the same list

module _ (f g : ℕ → ℕ) where
  inserted_same : (i n : ℕ) (xs : List ℕ) → f i ≡ g i → ((j : ℕ) → j < n → f j ≡ g j) → Under n xs → inserted f i xs ≡ inserted g i xs
  unfolding inserted
  inserted_same i n [] e h u = refl
  inserted_same i n (x ∷ xs) e h (u, us) = rw (e, h x u, inserted_same i n xs e h us) refl

  ranked-same : (n : ℕ) → ((j : ℕ) → j < n → f j ≡ g j) → ranked f n ≡ ranked g n
  unfolding ranked
  ranked-same zero h = refl
  ranked-same (suc n) h =
      let before : ranked f n ≡ ranked g n = ranked-same n (λ j l. h j (omega arith)) in
      rw (← before) (inserted_same n n (ranked f n) (h n (omega arith)) (λ j l. h j (omega arith)) (under-ranked f n))

  keep_same : (n : ℕ) (xs : List ℕ) → ((j : ℕ) → j < n → f j ≡ g j) → Under n xs → keep (λ i. not (eqb (f i) 0)) xs ≡ keep (λ i. not (eqb (g i) 0)) xs
  keep_same n [] h u = refl
  keep_same n (x ∷ xs) h (u, us) = rw (h x u, keep_same n xs h us) refl

  pub fullest-same : ((j : ℕ) → j < slots → f j ≡ g j) → fullest_by f ≡ fullest_by g
  unfolding fullest_by
  fullest-same h =
      rw (← ranked-same slots h) (ap (take listed) (keep_same slots (ranked f slots) h (under-ranked f slots)))
