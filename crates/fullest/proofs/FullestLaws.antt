-- The check of a list of the fullest: its keys fall, and as many slots as it has are at or above its limit. That is so of `fullest` and of no other
-- list.
use Prim.Native.Nat.{ℕ, zero, suc, ◌≤◌, ◌<◌}
use mathlib.Core.Path.{◌≡◌, refl, sym, ap, ◌∙◌}
use mathlib.Core.Bool.{Bool, true, false, cond, not, ◌&&◌, false≢true}
use mathlib.Core.List.{List, [], ◌∷◌}
use native.Mathlib.Omega.{arith}
use lib.Dec.{leb, ltb, eqb}
use lib.ListN.{length, get_or, take}
use lib.Seq.{take_all, length-take-le, get_or-take}
use borrow.Author.Tests.{eq-eqb, ne_eqb, eqb-true, eqb-false, ltb-true, lt-ltb, leb-true, leb-false, le-leb, lt-leb}
use Rattle.lists.specs.Slots.{occurs, keep_if, keep}
use Rattle.lists.proofs.SlotsLaws.{if_eq, occurs-same, occurs-other, occurs-keep}
use Rattle.rules.specs.Fullest.{ranked, fullest_by}
use Rattle.rules.proofs.Ranked.{under-ranked}
use Rattle.fullest.specs.Keys.{key, top, falling, above, limit_of, list_rule}
use Rattle.lists.proofs.TestLaws.{same_bool, and-true, true-and}
use Rattle.memory.specs.Memory.{same}
use Rattle.memory.proofs.OneMemory.{true_same, same_true}
use Rattle.fullest.proofs.Falls.{Falls, falls-keep, falls-take, falls-last, falls_fit, up_to, up_to-first, occurs-place, up_to-place}
use Rattle.fullest.proofs.Ranked.{falls-ranked, occurs-ranked, occurs-under, above-ranked}

-- ---- tests that agree keep the same

keep_same : (p q : ℕ → Bool) (xs : List ℕ) → ((i : ℕ) → p i ≡ q i) → keep p xs ≡ keep q xs
keep_same p q [] h = refl
keep_same p q (x ∷ xs) h = rw (h x, keep_same p q xs h) refl

-- a test that the kept ones pass anyway may come first
pub keep-first : (p q : ℕ → Bool) (xs : List ℕ) → ((i : ℕ) → p i ≡ true → q i ≡ true) → keep p (keep q xs) ≡ keep p xs
keep-first p q [] h = refl
keep-first p q (x ∷ xs) h = go (p x) (q x) refl refl (keep-first p q xs h)
  where
    go : (a b : Bool) → p x ≡ a → q x ≡ b → keep p (keep q xs) ≡ keep p xs → keep p (keep_if b x (keep q xs)) ≡ keep_if a x (keep p xs)
    go true true e g r = rw (e, r) refl
    go false true e g r = rw (e, r) refl
    go true false e g r = absurd (false≢true (sym g ∙ h x e))
    go false false e g r = r

-- ---- the test of a list as facts

pub falling-falls : (f : ℕ → ℕ) (m : ℕ) (is : List ℕ) → falling f m is ≡ true
    → Falls (key f) m is × ((j : ℕ) → 1 ≤ occurs j is → (j < 64) × (64 ≤ key f j))
falling-falls f m [] e = (tt, λ j o. absurd (omega arith))
falling-falls f m (i ∷ is) e =
    let (l, r) = and-true (ltb i 64) ((leb 64 (key f i) && ltb (key f i) m) && falling f (key f i) is) e in
    let (q, t) = and-true (leb 64 (key f i) && ltb (key f i) m) (falling f (key f i) is) r in
    let (a, b) = and-true (leb 64 (key f i)) (ltb (key f i) m) q in
    let (falls, each) = falling-falls f (key f i) is t in (
      (ltb-true (key f i) m b, falls),
      λ j o. if_eq j i (λ e. rw e (ltb-true i 64 l, leb-true 64 (key f i) a)) (λ d. each j (omega (arith, occurs-other j i is d))),
    )

falls-falling : (f : ℕ → ℕ) (m : ℕ) (is : List ℕ) → Falls (key f) m is → ((j : ℕ) → 1 ≤ occurs j is → (j < 64) × (64 ≤ key f j))
    → falling f m is ≡ true
falls-falling f m [] h each = refl
falls-falling f m (i ∷ is) (h, t) each =
    let (l, s) = each i (omega (arith, occurs-same i is)) in
    true-and (lt-ltb i 64 l)
    (true-and (true-and (le-leb 64 (key f i) s) (lt-ltb (key f i) m h)) (falls-falling f (key f i) is t (λ j o. each j (omega arith))))

module _ (f : ℕ → ℕ) (small : (i : ℕ) → f i < 65536) where
  key-top : (i : ℕ) → key f i < top
  key-top i = omega (arith, small i)

  -- all slots, and those with bytes waiting, fullest first
  abbrev pub all : List ℕ
  all = ranked f 64

  abbrev pub filled : List ℕ
  filled = keep (up_to (key f) 64) all

  all-falls : Falls (key f) top all
  all-falls = falls-ranked f top 64 (omega arith) key-top

  pub filled-falls : Falls (key f) top filled
  filled-falls = falls-keep (key f) (up_to (key f) 64) top all all-falls

  -- a key of 64 or more: some bytes wait
  waits : (i : ℕ) → not (eqb (f i) 0) ≡ up_to (key f) 64 i
  waits i = go (eqb (f i) 0) refl
    where
      go : (b : Bool) → eqb (f i) 0 ≡ b → not b ≡ leb 64 (key f i)
      go true e = sym (lt-leb 64 (key f i) (omega (arith, eqb-true (f i) 0 e)))
      go false e = sym (le-leb 64 (key f i) (pos (eqb-false (f i) 0 e)))
        where
          pos : (f i ≡ 0 → ⊥) → 64 ≤ key f i
          pos d = omega arith

  pub fullest-filled : fullest_by f ≡ take 5 filled
  unfolding fullest_by
  fullest-filled = ap (take 5) (keep_same (λ i. not (eqb (f i) 0)) (up_to (key f) 64) all waits)

  above-filled : (t : ℕ) → 64 ≤ t → above f t 64 ≡ length (keep (up_to (key f) t) filled)
  above-filled t h =
      sym (above-ranked f t 64)
      ∙ ap length
      (sym (keep-first (up_to (key f) t) (up_to (key f) 64) all (λ i e. le-leb 64 (key f i) (omega (arith, leb-true t (key f i) e)))))

  above-least : above f 64 64 ≡ length filled
  above-least = sym (above-ranked f 64 64)

  pub filled_each : (j : ℕ) → 1 ≤ occurs j filled → (j < 64) × (64 ≤ key f j)
  filled_each j o = go (leb 64 (key f j)) refl (rw (occurs-keep (up_to (key f) 64) j all) at o)
    where
      go : (b : Bool) → leb 64 (key f j) ≡ b → 1 ≤ cond b (occurs j all) 0 → (j < 64) × (64 ≤ key f j)
      go true e q = (occurs-under 64 j all (under-ranked f 64) q, leb-true 64 (key f j) e)
      go false e q = absurd (omega arith)

  -- ---- a list that passes is the list

  -- a list whose keys fall, whose members have keys of at least t, and that is as long as there are such slots
  listed_kept : (t : ℕ) (is : List ℕ) → Falls (key f) top is → ((j : ℕ) → 1 ≤ occurs j is → (j < 64) × (t ≤ key f j)) → above f t 64 ≡ length is
      → is ≡ keep (up_to (key f) t) all
  listed_kept t is h each e =
      let inside : (j : ℕ) → 1 ≤ occurs j is → 1 ≤ occurs j (keep (up_to (key f) t) all)
      = λ j o.
      let (l, q) = each j o in
      rw (occurs-keep (up_to (key f) t) j all, le-leb t (key f j) q) (occurs-ranked f j 64 l) in
      (falls_fit (key f) top top is (keep (up_to (key f) t) all) h (falls-keep (key f) (up_to (key f) t) top all all-falls) inside).1
      (sym e ∙ sym (above-ranked f t 64))

  pub passes-is : (is : List ℕ) → length is ≤ 5 → list_rule f is ≡ true → is ≡ fullest_by f
  passes-is is few e =
      let (a, b) = and-true (falling f top is) (eqb (above f (limit_of f is) 64) (length is)) e in
      let (falls, each) = falling-falls f top is a in
      let count : above f (limit_of f is) 64 ≡ length is = eqb-true (above f (limit_of f is) 64) (length is) b in
      if_eq (length is) 5
      (λ five.
      let t : ℕ = key f (get_or is 4 0) in
      let limit : limit_of f is ≡ t = rw (eq-eqb (length is) 5 five) refl in
      let least : 64 ≤ t = (each (get_or is 4 0) (occurs-place (key f) 4 is (omega arith))).1 in
      let kept : is ≡ keep (up_to (key f) t) all
      = listed_kept t is falls (λ j o. ((each j o).0, falls-last (key f) top 4 j is falls five o)) (sym (ap (λ (x : ℕ). above f x 64) limit) ∙ count) in
      let first : keep (up_to (key f) t) all ≡ keep (up_to (key f) t) filled
      = sym (keep-first (up_to (key f) t) (up_to (key f) 64) all (λ i q. le-leb 64 (key f i) (omega (arith, leb-true t (key f i) q)))) in
      let long : length (keep (up_to (key f) t) filled) ≡ 5 = ap length (sym (kept ∙ first)) ∙ five in
      kept ∙ first ∙ up_to-first (key f) t top filled filled-falls ∙ ap (λ (n : ℕ). take n filled) long ∙ sym fullest-filled)
      (λ fewer.
      let limit : limit_of f is ≡ 64 = rw (ne_eqb (length is) 5 fewer) refl in
      let kept : is ≡ filled = listed_kept 64 is falls each (sym (ap (λ (x : ℕ). above f x 64) limit) ∙ count) in
      kept ∙ sym (take_all 5 filled (omega (arith, ap length kept))) ∙ sym fullest-filled)

  -- ---- and the list passes

  take_each : (n j : ℕ) (xs : List ℕ) → 1 ≤ occurs j (take n xs) → 1 ≤ occurs j xs
  take_each zero j xs o = absurd (omega arith)
  take_each (suc n) j [] o = absurd (omega arith)
  take_each (suc n) j (x ∷ xs) o =
      if_eq j x (λ e. rw e (omega (arith, occurs-same x xs)))
      (λ d. omega (arith, take_each n j xs (omega (arith, occurs-other j x (take n xs) d))))

  first_passes : list_rule f (take 5 filled) ≡ true
  first_passes =
      true-and
      (falls-falling f top (take 5 filled) (falls-take (key f) 5 top filled filled-falls) (λ j o. filled_each j (take_each 5 j filled o)))
      (eq-eqb (above f (limit_of f (take 5 filled)) 64) (length (take 5 filled)) (go (leb 5 (length filled)) refl))
    where
      go : (b : Bool) → leb 5 (length filled) ≡ b → above f (limit_of f (take 5 filled)) 64 ≡ length (take 5 filled)
      go true e =
          let enough : 5 ≤ length filled = leb-true 5 (length filled) e in
          let five : length (take 5 filled) ≡ 5 = length-take-le 5 filled enough in
          let t : ℕ = key f (get_or filled 4 0) in
          let limit : limit_of f (take 5 filled) ≡ t
          = rw (five) (ap (key f) (get_or-take 5 filled 4 0 (omega arith))) in
          let least : 64 ≤ t = (filled_each (get_or filled 4 0) (occurs-place (key f) 4 filled (omega arith))).1 in
          ap (λ (x : ℕ). above f x 64) limit
          ∙ above-filled t least
          ∙ up_to-place (key f) 4 top filled filled-falls (omega arith)
          ∙ sym five
      go false e =
          let few : length filled < 5 = leb-false 5 (length filled) e in
          let whole : take 5 filled ≡ filled = take_all 5 filled (omega arith) in
          let limit : limit_of f (take 5 filled) ≡ 64 = rw (whole, ne_eqb (length filled) 5 (λ q. omega arith)) refl in
          ap (λ (x : ℕ). above f x 64) limit ∙ above-least ∙ sym (ap length whole)

  -- for a list of at most five slots the test is whether it is the list worked out afresh
  pub list_law : (is : List ℕ) → length is ≤ 5 → list_rule f is ≡ same is (fullest_by f)
  list_law is few =
      same_bool (list_rule f is) (same is (fullest_by f)) (λ e. rw (← passes-is is few e) (true_same is))
      (λ e. rw (same_true is (fullest_by f) e, fullest-filled) first_passes)
