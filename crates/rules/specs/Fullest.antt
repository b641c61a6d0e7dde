-- "Dispatchers want the fullest channels at a glance." (02 §7): the bytes that wait in a channel, and the five fullest.
use Rattle.std.specs.Prelude.{ℕ, zero, suc, ◌+◌, Bool, not, cond, ◌&&◌, ◌||◌, List, [], ◌∷◌, ltb, eqb, take}
use Rattle.lists.specs.Slots.{keep}
use Rattle.rules.specs.Numbers.{slots, listed}
use Rattle.rules.specs.State.{Record, Channel, at}

-- "Each channel's record gains its bytes waiting (without framing)"
unfoldable pub lengths_of : List Record → ℕ
lengths_of [] = 0
lengths_of (r ∷ rs) = r.length + lengths_of rs

abbrev pub bytes_waiting : Channel → ℕ
bytes_waiting c = lengths_of c.waiting

-- "most bytes first, the lower slot first on a tie": slot i comes before slot j (f gives a slot's bytes)
abbrev pub ahead : (ℕ → ℕ) → ℕ → ℕ → Bool
ahead f i j = ltb (f j) (f i) || (eqb (f i) (f j) && ltb i j)

-- slot i put in before the first that it comes before, and the slots below n in that order
unfoldable pub inserted : (ℕ → ℕ) → ℕ → List ℕ → List ℕ
inserted f i [] = i ∷ []
inserted f i (j ∷ js) = cond (ahead f i j) (i ∷ j ∷ js) (j ∷ inserted f i js)

unfoldable pub ranked : (ℕ → ℕ) → ℕ → List ℕ
ranked f zero = []
ranked f (suc n) = inserted f n (ranked f n)

-- "a list of the five fullest: .., channels with none left out"
unfoldable pub fullest_by : (ℕ → ℕ) → List ℕ
fullest_by f = take listed (keep (λ i. not (eqb (f i) 0)) (ranked f slots))

-- the bytes of the channel in slot i, and the list worked out afresh
abbrev pub bytes_in : List Channel → ℕ → ℕ
bytes_in cs i = bytes_waiting (at cs i)

abbrev pub fullest : List Channel → List ℕ
fullest cs = fullest_by (bytes_in cs)
