-- The greatest key below a limit, found slot by slot, is the first of those below it.
use Prim.Native.Nat.{ℕ, zero, suc, ◌+◌, ◌-◌, ◌*◌, ◌%◌, ◌≤◌, ◌<◌, max}
use mathlib.Core.Path.{◌≡◌, refl, ap, ◌∙◌}
use mathlib.Core.Bool.{Bool, true, false, cond, ◌&&◌}
use mathlib.Core.List.{List, [], ◌∷◌}
use native.Mathlib.Omega.{arith}
use native.Mathlib.Numerals.{add-one}
use lib.Dec.{leb, ltb}
use lib.ListN.{take}
use borrow.Author.Tests.{ltb-true, lt-ltb, le-ltb, le-leb, leb-true, leb-false}
use Rattle.octets.specs.Number.{Bytes}
use Rattle.lists.specs.Slots.{occurs, keep}
use Rattle.lists.proofs.SlotsLaws.{if_eq, occurs-same, occurs-keep}
use Rattle.rules.specs.Numbers.{slots}
use Rattle.rules.specs.Fullest.{ranked}
use Rattle.memory.specs.Reading.{bytes_at}
use Rattle.rules.proofs.Ranked.{under-ranked}
use Rattle.fullest.specs.Keys.{key, top}
use Rattle.fullest.specs.Moved.{next_below, best_below, slot_of_key}
use Rattle.lists.proofs.TestLaws.{and-true}
use Rattle.fullest.proofs.Falls.{Falls, falls-keep, falls_at}
use Rattle.fullest.proofs.Ranked.{falls-ranked, occurs-ranked, occurs-under}
use Rattle.fullest.proofs.BytesRead.{low_at, high_at, bytes_read, bytes_fit}

pub best_turn : (b : List ℕ) (t s best x y r : ℕ) → best ≡ best_below (bytes_at b) t s
    → x ≡ slots * (low_at b s + 256 * high_at b s) + (slots - 1 - s) → y ≡ cond (ltb x t) x 0 → r ≡ max best y
    → r ≡ best_below (bytes_at b) t (s + 1)
unfolding best_below
best_turn b t s best x y r e g h q =
    let k : x ≡ key (bytes_at b) s = omega (arith, bytes_read b s) in
    rw (add-one s, q, h, e, k) refl

module _ (f : ℕ → ℕ) (t : ℕ) where
  -- it is at most a number that all keys below t are at most
  best_most : (m n : ℕ) → ((i : ℕ) → i < n → key f i < t → key f i ≤ m) → best_below f t n ≤ m
  unfolding best_below
  best_most m zero h = omega arith
  best_most m (suc n) h = go (ltb (key f n) t) refl (best_most m n (λ i l q. h i (omega arith) q))
    where
      go : (b : Bool) → ltb (key f n) t ≡ b → best_below f t n ≤ m → max (best_below f t n) (cond b (key f n) 0) ≤ m
      go true e q = let here : key f n ≤ m = h n (omega arith) (ltb-true (key f n) t e) in omega arith
      go false e q = omega arith

  -- and at least each of them
  best_least : (i n : ℕ) → i < n → key f i < t → key f i ≤ best_below f t n
  unfolding best_below
  best_least i zero l q = absurd (omega arith)
  best_least i (suc n) l q =
      if_eq i n
      (λ e. let here : ltb (key f n) t ≡ true = lt-ltb (key f n) t (rw e at q) in rw (here, e) (omega arith))
      (λ d. let before : key f i ≤ best_below f t n = best_least i n (omega arith) q in omega arith)

  abbrev below : ℕ → Bool
  below i = leb 64 (key f i) && ltb (key f i) t

  best_law : (small : (i : ℕ) → f i < 65536) → slot_of_key (best_below f t 64) ≡ next_below f t
  best_law small = go (keep below (ranked f 64)) refl (falls-keep (key f) below top (ranked f 64) (falls-ranked f top 64 (omega arith) (λ i. omega (arith, small i))))
    where
      there : (xs : List ℕ) → keep below (ranked f 64) ≡ xs → (i : ℕ) → i < 64 → 64 ≤ key f i → key f i < t → 1 ≤ occurs i xs
      there xs e i l q r =
          rw (← e, occurs-keep below i (ranked f 64), le-leb 64 (key f i) q, lt-ltb (key f i) t r) (occurs-ranked f i 64 l)

      first : (x : ℕ) (xs : List ℕ) → keep below (ranked f 64) ≡ x ∷ xs → (x < 64) × ((64 ≤ key f x) × (key f x < t))
      first x xs e =
          let o : 1 ≤ occurs x (keep below (ranked f 64)) = rw e (omega (arith, occurs-same x xs)) in
          pass (below x) refl (rw (occurs-keep below x (ranked f 64)) at o)
        where
          pass : (b : Bool) → below x ≡ b → 1 ≤ cond b (occurs x (ranked f 64)) 0 → (x < 64) × ((64 ≤ key f x) × (key f x < t))
          pass true p o =
              let (u, v) = and-true (leb 64 (key f x)) (ltb (key f x) t) p in
              (occurs-under 64 x (ranked f 64) (under-ranked f 64) o, (leb-true 64 (key f x) u, ltb-true (key f x) t v))
          pass false p o = absurd (omega arith)

      go : (xs : List ℕ) → keep below (ranked f 64) ≡ xs → Falls (key f) top xs → slot_of_key (best_below f t 64) ≡ take 1 (keep below (ranked f 64))
      go [] e h =
          let none : best_below f t 64 ≤ 63
          = best_most 63 64
          (λ i l q. few (key f i) (λ s. let o : 1 ≤ 0 = there [] e i l s q in omega arith)) in
          rw (lt-ltb (best_below f t 64) 64 (omega arith), e) refl
        where
          few : (n : ℕ) → (64 ≤ n → ⊥) → n ≤ 63
          few n d = omega arith
      go (x ∷ xs) e (h, hs) =
          let (l, some) = first x xs e in
          let (least, low) = some in
          let up : key f x ≤ best_below f t 64 = best_least x 64 l low in
          let down : best_below f t 64 ≤ key f x
          = best_most (key f x) 64
          (λ i m q. reach (key f i) (key f x) least (λ s. let o : key f i < suc (key f x) = falls_at (key f) (suc (key f x)) i (x ∷ xs) (omega arith, hs) (there (x ∷ xs) e i m s q) in omega arith)) in
          let same : best_below f t 64 ≡ key f x = omega arith in
          rw (same, le-ltb (key f x) 64 least, e) (ap (λ (i : ℕ). i ∷ []) (back (f x) x l))
        where
          reach : (a b : ℕ) → 64 ≤ b → (64 ≤ a → a ≤ b) → a ≤ b
          reach a b l h = cases (leb 64 a) refl
            where
              cases : (q : Bool) → leb 64 a ≡ q → a ≤ b
              cases true e = h (leb-true 64 a e)
              cases false e = omega (arith, leb-false 64 a e)

          back : (n i : ℕ) → i < 64 → 63 - (64 * n + (63 - i)) % 64 ≡ i
          back n i l = omega arith

pub best_slot : (b : List ℕ) (t r : ℕ) → Bytes b → r ≡ best_below (bytes_at b) t 64 → slot_of_key r ≡ next_below (bytes_at b) t
best_slot b t r fits e = ap slot_of_key e ∙ best_law (bytes_at b) t (λ i. bytes_fit b i fits)
