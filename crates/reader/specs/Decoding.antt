-- What a memory's base is while an image is read into it, and then its notes.
use Rattle.std.specs.Prelude.{◌≡◌, ℕ, zero, suc, ◌+◌, ◌%◌, ◌≤◌, cond, List, [], replicate, nat_lt, slice_set}
use Rattle.rules.specs.Numbers.{slots, cells}
use Rattle.rules.specs.State.{Channel, State, blank, at}
use Rattle.memory.specs.Fits.{Fits}
use Rattle.memory.specs.Layout.{bytes_of}
use Rattle.memory.specs.Reading.{waiting_at, first_at}
use Rattle.soundness.specs.Notes.{length_at, sum_of}

-- what is left of the image is `rest`, and the base is that of s
pub record Reached (left rest m : List ℕ) (s : State) : Type 0 where
  pub ahead : left ≡ rest
  pub memory : m ≡ bytes_of s
  pub fits : Fits s

-- a state with other channels
abbrev pub with_channels : State → List Channel → State
with_channels s cs = record { edition = s.edition; channels = cs; rows = s.rows; order = s.order; scan = s.scan; parked = s.parked }

-- no slot behind slot i has records
abbrev pub NoneBehind : State → ℕ → Type 0
NoneBehind s i = (j : ℕ) → suc i ≤ j → (at s.channels j).waiting ≡ []

-- the slots before slot i are those of a state, and the others are free
unfoldable pub done_to : List Channel → ℕ → List Channel
done_to cs zero = replicate slots blank
done_to cs (suc i) = slice_set (done_to cs i) i (at cs i)

-- No place of the run that the reader comes to is farther on than this, so that none overflows
abbrev pub farthest : ℕ
farthest = 1000000

-- ---- the notes worked out afresh

-- the bytes of n records of the run from place p on, so far as two bytes hold them; none where there are fewer cells
unfoldable pub bytes_from : List ℕ → ℕ → ℕ → ℕ
bytes_from b p n = cond (nat_lt cells (p + n)) 0 (sum_of (length_at b) p n % 65536)

-- no byte waits in any slot; and those of the slots before slot k are counted
abbrev pub no_bytes : ℕ → ℕ
no_bytes i = 0

abbrev pub bytes_to : List ℕ → ℕ → ℕ → ℕ
bytes_to b k i = cond (nat_lt i k) (bytes_from b (first_at b i) (waiting_at b i)) 0
