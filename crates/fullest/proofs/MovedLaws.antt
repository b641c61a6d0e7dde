-- One entry moved gives the list worked out afresh. The other slots are ranked as before; of them the list holds the first ones, at least four or all.
--
use Prim.Native.Nat.{ℕ, zero, suc, ◌+◌, ◌-◌, ◌%◌, ◌≤◌, ◌<◌}
use mathlib.Core.Path.{◌≡◌, refl, sym, ap, ◌∙◌}
use mathlib.Core.Bool.{Bool, true, false, cond, not, ◌&&◌}
use mathlib.Core.List.{List, [], ◌∷◌, ◌++◌}
use mathlib.Core.Logic.{◌⊎◌, inl, inr, ⊎_elim}
use native.Mathlib.Omega.{arith}
use lib.Dec.{leb, ltb, eqb}
use lib.ListN.{length, get_or, take, drop, take-append-drop, length-append, length-take}
use lib.Seq.{take_all, length-take-le, take-append-le, take-take, get_or-take}
use borrow.Author.Tests.{eq-eqb, ne_eqb, ltb-true, ltb-false, lt-ltb, le-ltb, leb-true, leb-false, le-leb}
use Rattle.lists.specs.Slots.{one_if, occurs, keep_if, keep}
use Rattle.lists.proofs.SlotsLaws.{if_eq, occurs-same, occurs-other, occurs-keep}
use Rattle.rules.specs.Fullest.{ranked, fullest_by}
use Rattle.fullest.specs.Keys.{key, top}
use Rattle.fullest.specs.Moved.{without, least_of, put_in, next_below, slot_of_key, moved, Movable}
use Rattle.fullest.proofs.Falls.{Falls, falls_below, falls-keep, falls-take, falls_at, falls_fit, up_to, up_to-none, up_to-first, up_to-place, occurs-place}
use Rattle.fullest.proofs.Ranked.{occurs-ranked}
use Rattle.fullest.proofs.FullestLaws.{keep-first, filled, filled-falls, filled_each, fullest-filled}

keep-both : (p q : ℕ → Bool) (xs : List ℕ) → keep (λ i. p i && q i) xs ≡ keep q (keep p xs)
keep-both p q [] = refl
keep-both p q (x ∷ xs) = go (p x) (keep-both p q xs)
  where
    go : (b : Bool) → keep (λ i. p i && q i) xs ≡ keep q (keep p xs) → keep_if (b && q x) x (keep (λ i. p i && q i) xs) ≡ keep q (keep_if b x (keep p xs))
    go true e = ap (keep_if (q x) x) e
    go false e = e

-- ---- lists without a slot

-- what is kept of the first ones are the first of what is kept
keep-take : (p : ℕ → Bool) (n : ℕ) (xs : List ℕ) → keep p (take n xs) ≡ take (length (keep p (take n xs))) (keep p xs)
keep-take p zero xs = refl
keep-take p (suc n) [] = refl
keep-take p (suc n) (x ∷ xs) = go (p x) (keep-take p n xs)
  where
    go : (b : Bool) → keep p (take n xs) ≡ take (length (keep p (take n xs))) (keep p xs)
        → keep_if b x (keep p (take n xs)) ≡ take (length (keep_if b x (keep p (take n xs)))) (keep_if b x (keep p xs))
    go true e = ap (λ (zs : List ℕ). x ∷ zs) e
    go false e = e

length_without : (s : ℕ) (xs : List ℕ) → length (without s xs) + occurs s xs ≡ length xs
length_without s [] = refl
length_without s (x ∷ xs) =
    if_eq s x
    (λ e. rw (eq-eqb x s (sym e), eq-eqb s x e) (omega (arith, length_without s xs)))
    (λ d. rw (ne_eqb x s (λ q. d (sym q)), ne_eqb s x d) (omega (arith, length_without s xs)))

without-here : (s j : ℕ) (xs : List ℕ) → (j ≡ s → ⊥) → occurs j (without s xs) ≡ occurs j xs
without-here s j xs d = occurs-keep (λ i. not (eqb i s)) j xs ∙ rw (ne_eqb j s d) refl

without_other : (s j : ℕ) (xs : List ℕ) → 1 ≤ occurs j (without s xs) → j ≡ s → ⊥
without_other s j xs o e =
    let none : occurs j (without s xs) ≡ 0 = occurs-keep (λ i. not (eqb i s)) j xs ∙ rw (eq-eqb j s e) refl in
    omega arith

length_none : (xs : List ℕ) → length xs ≡ 0 → xs ≡ []
length_none [] e = refl
length_none (x ∷ xs) e = absurd (omega arith)

one_only : (s : ℕ) (xs : List ℕ) → length xs ≡ 1 → 1 ≤ occurs s xs → xs ≡ s ∷ []
one_only s [] e o = absurd (omega arith)
one_only s (x ∷ []) e o = if_eq s x (λ q. ap (λ (i : ℕ). i ∷ []) (sym q)) (λ d. absurd (omega (arith, occurs-other s x [] d)))
one_only s (x ∷ y ∷ xs) e o = absurd (omega arith)

take-first : (n m : ℕ) (xs ys : List ℕ) → n ≤ length xs + m → take n (xs ++ take m ys) ≡ take n (xs ++ ys)
take-first n m [] ys l = take-take n m ys (omega arith)
take-first zero m (x ∷ xs) ys l = refl
take-first (suc n) m (x ∷ xs) ys l = ap (λ (zs : List ℕ). x ∷ zs) (take-first n m xs ys (omega arith))

module _ (k : ℕ → ℕ) where
  falls-once : (m s : ℕ) (xs : List ℕ) → Falls k m xs → occurs s xs ≤ 1
  falls-once m s [] h = omega arith
  falls-once m s (x ∷ xs) (h, t) =
      if_eq s x
      (λ e. go (leb 1 (occurs s xs)) refl e)
      (λ d. omega (arith, occurs-other s x xs d, falls-once (k x) s xs t))
    where
      go : (b : Bool) → leb 1 (occurs s xs) ≡ b → s ≡ x → occurs s (x ∷ xs) ≤ 1
      go true q e = let less : k s < k x = falls_at k (k x) s xs t (leb-true 1 (occurs s xs) q) in let same : k s ≡ k x = ap k e in absurd (omega arith)
      go false q e = let none : occurs s xs < 1 = leb-false 1 (occurs s xs) q in rw (eq-eqb s x e) (omega arith)

  -- keys at or above t come before those below it
  falls-parts : (t m : ℕ) (xs : List ℕ) → Falls k m xs → xs ≡ keep (up_to k t) xs ++ keep (λ i. ltb (k i) t) xs
  falls-parts t m [] h = refl
  falls-parts t m (x ∷ xs) (h, s) = go (leb t (k x)) refl (falls-parts t (k x) xs s)
    where
      all : (ys : List ℕ) → Falls k t ys → keep (λ i. ltb (k i) t) ys ≡ ys
      all [] g = refl
      all (y ∷ ys) (g, gs) = rw (lt-ltb (k y) t g) (ap (λ (zs : List ℕ). y ∷ zs) (all ys (falls_below k (k y) t ys (omega arith) gs)))

      go : (b : Bool) → leb t (k x) ≡ b → xs ≡ keep (up_to k t) xs ++ keep (λ i. ltb (k i) t) xs
          → x ∷ xs ≡ keep_if b x (keep (up_to k t) xs) ++ keep_if (ltb (k x) t) x (keep (λ i. ltb (k i) t) xs)
      go true e q = rw (le-ltb (k x) t (leb-true t (k x) e)) (ap (λ (zs : List ℕ). x ∷ zs) q)
      go false e q =
          let less : k x < t = leb-false t (k x) e in
          let rest : Falls k t xs = falls_below k (k x) t xs (omega arith) s in
          rw (lt-ltb (k x) t less, up_to-none k t xs rest) (ap (λ (zs : List ℕ). x ∷ zs) (sym (all xs rest)))

  -- ---- a slot put in

  occurs-put_in : (j s : ℕ) (xs : List ℕ) → occurs j (put_in k s xs) ≡ one_if (eqb j s) + occurs j xs
  unfolding put_in
  occurs-put_in j s [] = refl
  occurs-put_in j s (x ∷ xs) = go (ltb (k x) (k s)) (occurs-put_in j s xs)
    where
      go : (b : Bool) → occurs j (put_in k s xs) ≡ one_if (eqb j s) + occurs j xs
          → occurs j (cond b (s ∷ x ∷ xs) (x ∷ put_in k s xs)) ≡ one_if (eqb j s) + occurs j (x ∷ xs)
      go true q = refl
      go false q = omega arith

  pub length-put_in : (s : ℕ) (xs : List ℕ) → length (put_in k s xs) ≡ suc (length xs)
  unfolding put_in
  length-put_in s [] = refl
  length-put_in s (x ∷ xs) = go (ltb (k x) (k s)) (length-put_in s xs)
    where
      go : (b : Bool) → length (put_in k s xs) ≡ suc (length xs) → length (cond b (s ∷ x ∷ xs) (x ∷ put_in k s xs)) ≡ suc (suc (length xs))
      go true q = refl
      go false q = ap suc q

  falls-put_in : (m s : ℕ) (xs : List ℕ) → k s < m → ((j : ℕ) → 1 ≤ occurs j xs → k j ≡ k s → ⊥) → Falls k m xs → Falls k m (put_in k s xs)
  unfolding put_in
  falls-put_in m s [] h d t = (h, tt)
  falls-put_in m s (x ∷ xs) h d (t, ts) =
      go (ltb (k x) (k s)) refl (λ q. falls-put_in (k x) s xs q (λ j o. d j (omega (arith))) ts)
    where
      go : (b : Bool) → ltb (k x) (k s) ≡ b → (k s < k x → Falls k (k x) (put_in k s xs)) → Falls k m (cond b (s ∷ x ∷ xs) (x ∷ put_in k s xs))
      go true e q = (h, (ltb-true (k x) (k s) e, ts))
      go false e q =
          let other = d x (omega (arith, occurs-same x xs)) in
          (t, q (apart (ltb-false (k x) (k s) e) other))
        where
          apart : k s ≤ k x → (k x ≡ k s → ⊥) → k s < k x
          apart a b = omega arith

  -- ahead of the last of some, it goes in among them
  put_in-among : (s : ℕ) (xs ys : List ℕ) → least_of k xs < k s → k s < top → put_in k s (xs ++ ys) ≡ put_in k s xs ++ ys
  unfolding put_in
  put_in-among s [] ys h l = absurd (omega arith)
  put_in-among s (x ∷ []) ys h l = rw (lt-ltb (k x) (k s) h) refl
  put_in-among s (x ∷ z ∷ xs) ys h l = go (ltb (k x) (k s)) (put_in-among s (z ∷ xs) ys h l)
    where
      go : (b : Bool) → put_in k s ((z ∷ xs) ++ ys) ≡ put_in k s (z ∷ xs) ++ ys
          → cond b (s ∷ x ∷ (z ∷ xs) ++ ys) (x ∷ put_in k s ((z ∷ xs) ++ ys)) ≡ cond b (s ∷ x ∷ z ∷ xs) (x ∷ put_in k s (z ∷ xs)) ++ ys
      go true q = refl
      go false q = ap (λ (zs : List ℕ). x ∷ zs) q

  least-some : (xs : List ℕ) → ((j : ℕ) → 1 ≤ occurs j xs → 64 ≤ k j) → 64 ≤ least_of k xs
  least-some [] h = omega arith
  least-some (x ∷ []) h = h x (omega (arith, occurs-same x []))
  least-some (x ∷ y ∷ xs) h = least-some (y ∷ xs) (λ j o. h j (omega arith))

  pub least-last : (n : ℕ) (xs : List ℕ) → length xs ≡ suc n → least_of k xs ≡ k (get_or xs n 0)
  least-last n [] e = absurd (omega arith)
  least-last zero (x ∷ []) e = refl
  least-last zero (x ∷ y ∷ xs) e = absurd (omega arith)
  least-last (suc n) (x ∷ []) e = absurd (omega arith)
  least-last (suc n) (x ∷ y ∷ xs) e = least-last n (y ∷ xs) (omega arith)

falls-step : (k : ℕ → ℕ) (m i : ℕ) (xs : List ℕ) → Falls k m xs → i + 1 < length xs → k (get_or xs (i + 1) 0) < k (get_or xs i 0)
falls-step k m i [] h l = absurd (omega arith)
falls-step k m zero (x ∷ []) h l = absurd (omega arith)
falls-step k m zero (x ∷ y ∷ xs) (h, (t, ts)) l = t
falls-step k m (suc i) (x ∷ xs) (h, t) l = rw (suc_add i) (falls-step k (k x) i xs t (omega arith))
  where
    suc_add : (n : ℕ) → suc n + 1 ≡ suc (n + 1)
    suc_add n = omega arith

falls-agree : (k l : ℕ → ℕ) (m : ℕ) (xs : List ℕ) → ((j : ℕ) → 1 ≤ occurs j xs → k j ≡ l j) → Falls k m xs → Falls l m xs
falls-agree k l m [] h t = tt
falls-agree k l m (x ∷ xs) h (t, ts) =
    let e : k x ≡ l x = h x (omega (arith, occurs-same x xs)) in
    (omega arith, falls_below l (k x) (l x) xs (omega arith) (falls-agree k l (k x) xs (λ j o. h j (omega arith)) ts))

key_apart : (f : ℕ → ℕ) (i j : ℕ) → i < 64 → j < 64 → (i ≡ j → ⊥) → key f i ≡ key f j → ⊥
key_apart f i j l m d e = d (omega arith)

-- f before the change, g after it
module _ (f g : ℕ → ℕ) (s : ℕ) (small : (i : ℕ) → f i < 65536) (small' : (i : ℕ) → g i < 65536) (slot : s < 64)
    (others : (i : ℕ) → (i ≡ s → ⊥) → g i ≡ f i) where
  abbrev before : List ℕ
  before = filled f small

  abbrev after : List ℕ
  after = filled g small'

  key-others : (i : ℕ) → (i ≡ s → ⊥) → key f i ≡ key g i
  key-others i d = let e : g i ≡ f i = others i d in omega arith

  filled_has : (h : ℕ → ℕ) (fits : (i : ℕ) → h i < 65536) (j : ℕ) → j < 64 → 64 ≤ key h j → 1 ≤ occurs j (filled h fits)
  filled_has h fits j l q = rw (occurs-keep (up_to (key h) 64) j (ranked h 64), le-leb 64 (key h j) q) (occurs-ranked h j 64 l)

  -- the others are ranked as before
  others_same : without s before ≡ without s after
  others_same =
      let away : (j : ℕ) → 1 ≤ occurs j (without s before) → key f j ≡ key g j = λ j o. key-others j (without_other s j before o) in
      let falls : Falls (key g) top (without s before)
      = falls-agree (key f) (key g) top (without s before) away (falls-keep (key f) (λ i. not (eqb i s)) top before (filled-falls f small)) in
      let falls' : Falls (key g) top (without s after) = falls-keep (key g) (λ i. not (eqb i s)) top after (filled-falls g small') in
      let one : (j : ℕ) → 1 ≤ occurs j (without s before) → 1 ≤ occurs j (without s after)
      = λ j o.
      let d : j ≡ s → ⊥ = without_other s j before o in
      let (l, q) = filled_each f small j (rw (without-here s j before d) at o) in
      rw (without-here s j after d) (filled_has g small' j l (rw (key-others j d) at q)) in
      let two : (j : ℕ) → 1 ≤ occurs j (without s after) → 1 ≤ occurs j (without s before)
      = λ j o.
      let d : j ≡ s → ⊥ = without_other s j after o in
      let (l, q) = filled_each g small' j (rw (without-here s j after d) at o) in
      rw (without-here s j before d) (filled_has f small j l (rw (sym (key-others j d)) at q)) in
      let (a, e) = falls_fit (key g) top top (without s before) (without s after) falls falls' one in
      let (c, r) = falls_fit (key g) top top (without s after) (without s before) falls' falls two in
      e (omega arith)

  -- what is left of the list
  abbrev rest : List ℕ
  rest = without s (take 5 before)

  rest-first : rest ≡ take (length rest) (without s after)
  rest-first = keep-take (λ i. not (eqb i s)) 5 before ∙ ap (take (length rest)) others_same

  rest_all : length before < 5 → rest ≡ without s after
  rest_all few = ap (without s) (take_all 5 before (omega arith)) ∙ others_same

  -- at least four, or all
  rest-long : (4 ≤ length rest) ⊎ (rest ≡ without s after)
  rest-long = go (leb 5 (length before)) refl
    where
      go : (b : Bool) → leb 5 (length before) ≡ b → (4 ≤ length rest) ⊎ (rest ≡ without s after)
      go true e =
          let five : length (take 5 before) ≡ 5 = length-take-le 5 before (leb-true 5 (length before) e) in
          inl
          (omega
          (arith, length_without s (take 5 before), falls-once (key f) top s (take 5 before) (falls-take (key f) 5 top before (filled-falls f small))))
      go false e = inr (rest_all (leb-false 5 (length before) e))

  after-falls : Falls (key g) top after
  after-falls = filled-falls g small'

  without-falls : Falls (key g) top (without s after)
  without-falls = falls-keep (key g) (λ i. not (eqb i s)) top after after-falls

  -- ---- the slot is ahead of the last of the others that are listed

  after-put_in : 64 ≤ key g s → after ≡ put_in (key g) s (without s after)
  after-put_in some =
      let apart : (j : ℕ) → 1 ≤ occurs j (without s after) → key g j ≡ key g s → ⊥
      = λ j o.
      let d : j ≡ s → ⊥ = without_other s j after o in
      let (l, q) = filled_each g small' j (rw (without-here s j after d) at o) in
      key_apart g j s l slot d in
      let falls : Falls (key g) top (put_in (key g) s (without s after))
      = falls-put_in (key g) top s (without s after) (omega (arith, small' s)) apart without-falls in
      let one : (j : ℕ) → 1 ≤ occurs j after → 1 ≤ occurs j (put_in (key g) s (without s after))
      = λ j o.
      rw (occurs-put_in (key g) j s (without s after))
      (if_eq j s (λ e. rw (eq-eqb j s e) (omega arith)) (λ d. omega (arith, without-here s j after d))) in
      let two : (j : ℕ) → 1 ≤ occurs j (put_in (key g) s (without s after)) → 1 ≤ occurs j after
      = λ j o.
      if_eq j s (λ e. rw e (filled_has g small' s slot some))
      (λ d.
      let p : 1 ≤ one_if (eqb j s) + occurs j (without s after) = rw (occurs-put_in (key g) j s (without s after)) at o in
      let n : 1 ≤ 0 + occurs j (without s after) = rw (ne_eqb j s d) at p in
      omega (arith, without-here s j after d)) in
      let (a, e) = falls_fit (key g) top top after (put_in (key g) s (without s after)) after-falls falls one in
      let (c, r) = falls_fit (key g) top top (put_in (key g) s (without s after)) after falls after-falls two in
      e (omega arith)

  occurs-take : (n j : ℕ) (xs : List ℕ) → 1 ≤ occurs j (take n xs) → 1 ≤ occurs j xs
  occurs-take zero j xs o = absurd (omega arith)
  occurs-take (suc n) j [] o = absurd (omega arith)
  occurs-take (suc n) j (x ∷ xs) o =
      if_eq j x (λ e. rw e (omega (arith, occurs-same x xs)))
      (λ d. omega (arith, occurs-take n j xs (omega (arith, occurs-other j x (take n xs) d))))

  rest_each : (j : ℕ) → 1 ≤ occurs j rest → (j ≡ s → ⊥) × (1 ≤ occurs j (without s after))
  rest_each j o =
      let d : j ≡ s → ⊥ = without_other s j (take 5 before) o in
      let there : 1 ≤ occurs j before = occurs-take 5 j before (rw (without-here s j (take 5 before) d) at o) in
      (d, rw (sym others_same) (rw (without-here s j before d) there))

  rest_some : (j : ℕ) → 1 ≤ occurs j rest → (j < 64) × (64 ≤ key g j)
  rest_some j o = let (d, q) = rest_each j o in filled_each g small' j (rw (without-here s j after d) at q)

  among : least_of (key g) rest < key g s → take 5 (put_in (key g) s rest) ≡ take 5 after
  among l =
      let some : 64 ≤ key g s = omega (arith, least-some (key g) rest (λ j o. (rest_some j o).1)) in
      let whole : after ≡ put_in (key g) s (without s after) = after-put_in some in
      ⊎_elim
      (λ long.
      let parts : rest ++ drop (length rest) (without s after) ≡ without s after
      = ap (λ (xs : List ℕ). xs ++ drop (length rest) (without s after)) rest-first ∙ take-append-drop (length rest) (without s after) in
      let put : put_in (key g) s (without s after) ≡ put_in (key g) s rest ++ drop (length rest) (without s after)
      = ap (put_in (key g) s) (sym parts)
      ∙ put_in-among (key g) s rest (drop (length rest) (without s after)) l (omega (arith, small' s)) in
      sym
      (ap (take 5) (whole ∙ put)
      ∙ take-append-le 5 (put_in (key g) s rest) (drop (length rest) (without s after)) (omega (arith, length-put_in (key g) s rest))))
      (λ all. sym (ap (take 5) (whole ∙ ap (put_in (key g) s) (sym all))))
      rest-long

  -- ---- the slot is behind them

  abbrev low : ℕ → List ℕ
  low t = keep (λ i. ltb (key g i) t) after

  next_low : (t : ℕ) → next_below g t ≡ take 1 (low t)
  next_low t = ap (take 1) (keep-both (up_to (key g) 64) (λ i. ltb (key g i) t) (ranked g 64))

  low_parts : key g s < least_of (key g) rest → after ≡ rest ++ low (least_of (key g) rest)
  low_parts l =
      let t : ℕ = least_of (key g) rest in
      let kept : keep (up_to (key g) t) after ≡ rest
      = sym
      (keep-first (up_to (key g) t) (λ i. not (eqb i s)) after
      (λ i e. ne_not i s (λ q. let r : key g i ≡ key g s = ap (key g) q in omega (arith, leb-true t (key g i) e))))
      ∙ first-kept in
      falls-parts (key g) t top after after-falls ∙ ap (λ (xs : List ℕ). xs ++ low t) kept
    where
      ne_not : (i j : ℕ) → (i ≡ j → ⊥) → not (eqb i j) ≡ true
      ne_not i j d = rw (ne_eqb i j d) refl

      first-kept : keep (up_to (key g) (least_of (key g) rest)) (without s after) ≡ rest
      first-kept = go (length rest) refl
        where
          go : (n : ℕ) → length rest ≡ n → keep (up_to (key g) (least_of (key g) rest)) (without s after) ≡ rest
          go zero e =
              let none : rest ≡ [] = length_none rest e in
              ap (λ (xs : List ℕ). keep (up_to (key g) (least_of (key g) xs)) (without s after)) none
              ∙ up_to-none (key g) top (without s after) without-falls
              ∙ sym none
          go (suc n) e =
              let enough : n < length (without s after) = omega (arith, ap length rest-first, length-take (length rest) (without s after)) in
              let last : least_of (key g) rest ≡ key g (get_or (without s after) n 0)
              = least-last (key g) n rest e
              ∙ ap (key g) (ap (λ (xs : List ℕ). get_or xs n 0) (rest-first ∙ ap (λ (m : ℕ). take m (without s after)) e)
              ∙ get_or-take (suc n) (without s after) n 0 (omega arith)) in
              rw last
              (up_to-first (key g) (key g (get_or (without s after) n 0)) top (without s after) without-falls
              ∙ ap (λ (m : ℕ). take m (without s after)) (up_to-place (key g) n top (without s after) without-falls enough)
              ∙ sym (rest-first ∙ ap (λ (m : ℕ). take m (without s after)) e))

  -- all others are listed: behind them comes the slot itself, or nothing
  low-alone : rest ≡ without s after → key g s < least_of (key g) rest → length (low (least_of (key g) rest)) ≡ occurs s after
  low-alone all l =
      omega (arith, ap length (low_parts l), length-append rest (low (least_of (key g) rest)), length_without s after, ap length all)

  behind : key g s < least_of (key g) rest → take 5 (rest ++ next_below g (least_of (key g) rest)) ≡ take 5 after
  behind l =
      let t : ℕ = least_of (key g) rest in
      ap (λ (xs : List ℕ). take 5 (rest ++ xs)) (next_low t)
      ∙ ⊎_elim (λ long. take-first 5 1 rest (low t) (omega arith))
      (λ all.
      ap (λ (xs : List ℕ). take 5 (rest ++ xs))
      (take_all 1 (low t) (omega (arith, low-alone all l, falls-once (key g) top s after after-falls))))
      rest-long
      ∙ ap (take 5) (sym (low_parts l))

  -- no other slot has the same key
  least-apart : key g s ≤ least_of (key g) rest → key g s < least_of (key g) rest
  least-apart l = go rest (λ j o. ((rest_each j o).0, (rest_some j o).0)) l
    where
      go : (xs : List ℕ) → ((j : ℕ) → 1 ≤ occurs j xs → (j ≡ s → ⊥) × (j < 64)) → key g s ≤ least_of (key g) xs → key g s < least_of (key g) xs
      go [] h l = omega (arith, small' s)
      go (x ∷ []) h l = let (d, q) = h x (omega (arith, occurs-same x [])) in strict (key_apart g x s q slot d) l
        where
          strict : (key g x ≡ key g s → ⊥) → key g s ≤ key g x → key g s < key g x
          strict a b = omega arith
      go (x ∷ y ∷ xs) h l = go (y ∷ xs) (λ j o. h j (omega arith)) l

  -- ---- both

  pub moved-law : moved g s (fullest_by f) ≡ fullest_by g
  unfolding moved
  moved-law =
      rw (fullest-filled f small, fullest-filled g small')
      (go (ltb (least_of (key g) rest) (key g s)) refl)
    where
      go : (b : Bool) → ltb (least_of (key g) rest) (key g s) ≡ b
          → cond b (take 5 (put_in (key g) s rest)) (take 5 (rest ++ next_below g (least_of (key g) rest))) ≡ take 5 after
      go true e = among (ltb-true (least_of (key g) rest) (key g s) e)
      go false e = behind (least-apart (ltb-false (least_of (key g) rest) (key g s) e))

  -- ---- what moving one entry needs is so of the list before

  rest-falls : Falls (key g) top rest
  rest-falls =
      falls-agree (key f) (key g) top rest (λ j o. key-others j (rest_each j o).0)
      (falls-keep (key f) (λ i. not (eqb i s)) top (take 5 before) (falls-take (key f) 5 top before (filled-falls f small)))

  few-alone : length (take 5 before) < 5 → key g s ≤ least_of (key g) rest → slot_of_key (key g s) ≡ next_below g (least_of (key g) rest)
  few-alone few l =
      let t : ℕ = least_of (key g) rest in
      let all : rest ≡ without s after = rest_all (omega (arith, length-take 5 before)) in
      let less : key g s < t = least-apart l in
      let long : length (low t) ≡ occurs s after = low-alone all less in
      let own : 63 - key g s % 64 ≡ s = omega arith in
      go (ltb (key g s) 64) refl long (occurs-keep (λ i. ltb (key g i) t) s after ∙ rw (lt-ltb (key g s) t less) refl) own ∙ sym (next_low t)
    where
      absent : (b : Bool) → leb 1 (occurs s after) ≡ b → key g s < 64 → occurs s after ≡ 0
      absent true q l = let (h, k) = filled_each g small' s (leb-true 1 (occurs s after) q) in absurd (omega arith)
      absent false q l = omega (arith, leb-false 1 (occurs s after) q)

      go : (b : Bool) → ltb (key g s) 64 ≡ b → length (low (least_of (key g) rest)) ≡ occurs s after → occurs s (low (least_of (key g) rest)) ≡ occurs s after
          → 63 - key g s % 64 ≡ s → cond b [] ((63 - key g s % 64) ∷ []) ≡ take 1 (low (least_of (key g) rest))
      go true e long here own =
          let none : occurs s after ≡ 0 = absent (leb 1 (occurs s after)) refl (ltb-true (key g s) 64 e) in
          sym (ap (take 1) (length_none (low (least_of (key g) rest)) (long ∙ none)))
      go false e long here own =
          let some : 1 ≤ occurs s after = filled_has g small' s slot (ltb-false (key g s) 64 e) in
          let once : occurs s after ≤ 1 = falls-once (key g) top s after after-falls in
          ap (λ (i : ℕ). i ∷ []) own ∙ sym (ap (take 1) (one_only s (low (least_of (key g) rest)) (omega arith) (omega arith)))

  pub movable : Movable g s (fullest_by f)
  movable =
      rw (fullest-filled f small)
      (record {
        rest = record {
          slots = λ i l. (rest_some (get_or rest i 0) (occurs-place (key g) i rest l)).0;
          falls = λ i l. falls-step (key g) top i rest rest-falls l;
        };
        alone = few-alone;
      })
