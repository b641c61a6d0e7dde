-- Keys: one number for "most bytes first, the lower slot first on a tie", and what a list of the fullest is in terms of them. f gives the bytes that wait in a slot.
use Rattle.std.specs.Prelude.{ℕ, zero, suc, ◌+◌, ◌-◌, ◌*◌, Bool, true, cond, ◌&&◌, List, [], ◌∷◌, leb, ltb, eqb, length, get_or}
use Rattle.lists.specs.Slots.{one_if}
use Rattle.rules.specs.Numbers.{slots, listed}

-- more bytes give a larger key, and of as many the lower slot's is larger; a slot in which a byte waits has a key of at least 64
abbrev pub key : (ℕ → ℕ) → ℕ → ℕ
key f i = slots * f i + (slots - 1 - i)

-- more than any key
abbrev pub top : ℕ
top = 4294967295

-- slots with bytes waiting whose keys fall from below m on
abbrev pub falling : (ℕ → ℕ) → ℕ → List ℕ → Bool
falling f m [] = true
falling f m (i ∷ is) = ltb i slots && ((leb slots (key f i) && ltb (key f i) m) && falling f (key f i) is)

-- how many of the first n slots have a key of at least t
unfoldable pub above : (ℕ → ℕ) → ℕ → ℕ → ℕ
above f t zero = 0
above f t (suc n) = above f t n + one_if (leb t (key f n))

-- the least key that a slot of the list has, or could have were the list longer
abbrev pub limit_of : (ℕ → ℕ) → List ℕ → ℕ
limit_of f is = cond (eqb (length is) listed) (key f (get_or is (listed - 1) 0)) slots

-- a list passes: its keys fall, and as many slots as it has are at or above its limit
abbrev pub list_rule : (ℕ → ℕ) → List ℕ → Bool
list_rule f is = falling f top is && eqb (above f (limit_of f is) slots) (length is)
