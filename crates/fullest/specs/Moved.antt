-- The list of the fullest after the bytes of one slot changed, from the list before: no sorting, and at most one look at all slots.
use Rattle.std.specs.Prelude.{ℕ, zero, suc, ◌+◌, ◌-◌, ◌%◌, ◌≤◌, ◌<◌, max, ◌≡◌, not, cond, ◌&&◌, List, [], ◌∷◌, ◌++◌, leb, ltb, eqb, length, get_or, take}
use Rattle.lists.specs.Slots.{keep}
use Rattle.rules.specs.Numbers.{slots, listed}
use Rattle.rules.specs.Fullest.{ranked}
use Rattle.fullest.specs.Keys.{key, top}

-- the list without one slot
abbrev pub without : ℕ → List ℕ → List ℕ
without s is = keep (λ i. not (eqb i s)) is

-- the last key of a list whose keys fall, and the number above all keys where there is none
abbrev pub least_of : (ℕ → ℕ) → List ℕ → ℕ
least_of k [] = top
least_of k (i ∷ []) = k i
least_of k (i ∷ j ∷ is) = least_of k (j ∷ is)

-- slot s put in before the first whose key is smaller
unfoldable pub put_in : (ℕ → ℕ) → ℕ → List ℕ → List ℕ
put_in k s [] = s ∷ []
put_in k s (i ∷ is) = cond (ltb (k i) (k s)) (s ∷ i ∷ is) (i ∷ put_in k s is)

-- the slot with bytes waiting that has the greatest key below t, if there is one
abbrev pub next_below : (ℕ → ℕ) → ℕ → List ℕ
next_below f t = take 1 (keep (λ i. leb slots (key f i) && ltb (key f i) t) (ranked f slots))

-- that key, found by one look at each of the first n slots; 0 where no key is below t
unfoldable pub best_below : (ℕ → ℕ) → ℕ → ℕ → ℕ
best_below f t zero = 0
best_below f t (suc n) = max (best_below f t n) (cond (ltb (key f n) t) (key f n) 0)

-- the slot of a key, if some bytes wait
abbrev pub slot_of_key : ℕ → List ℕ
slot_of_key x = cond (ltb x slots) [] ((slots - 1 - x % slots) ∷ [])

-- the others stay as they are; the slot goes in where it belongs among them, or else the next one behind them comes last
unfoldable pub moved : (ℕ → ℕ) → ℕ → List ℕ → List ℕ
moved f s is =
    cond (ltb (least_of (key f) (without s is)) (key f s)) (take listed (put_in (key f) s (without s is)))
    (take listed (without s is ++ next_below f (least_of (key f) (without s is))))

-- the first r of a line are slots whose keys fall
pub record FallingLine (f : ℕ → ℕ) (r : ℕ) (line : List ℕ) : Type 0 where
  pub slots : (k : ℕ) → k < r → get_or line k 0 < slots
  pub falls : (k : ℕ) → k + 1 < r → key f (get_or line (k + 1) 0) < key f (get_or line k 0)

-- what moving one entry needs of a list: without the slot, its slots' keys fall; and where fewer than five are listed, every slot with bytes waiting is, so that
-- behind the others only the slot itself can come
pub record Movable (f : ℕ → ℕ) (s : ℕ) (is : List ℕ) : Type 0 where
  pub rest : FallingLine f (length (without s is)) (without s is)
  pub alone : length is < listed → key f s ≤ least_of (key f) (without s is) → slot_of_key (key f s) ≡ next_below f (least_of (key f) (without s is))
