-- The check of a memory's notes as the code goes about it: each slot's bytes are the sum of its records' lengths, and the list is the one worked out afresh from
-- them. proofs/NotesChecked shows that this is what soundness of the whole memory asks beside that of its base.
use Rattle.std.specs.Prelude.{◌≡◌, ℕ, zero, suc, ◌+◌, ◌-◌, ◌%◌, ◌<◌, ◌≤◌, Bool, not, ◌&&◌, ◌||◌, List, length, ◌==◌, nat_le, slice_index}
use Rattle.rules.specs.Numbers.{slots, room, cells, listed}
use Rattle.rules.specs.Fullest.{fullest_by}
use Rattle.memory.specs.Names as the
use Rattle.memory.specs.Layout.{note_place}
use Rattle.memory.specs.Reading.{number_in, waiting_at, first_at, bytes_at, listed_at}
use Rattle.memory.specs.Memory.{same}
use Rattle.fullest.specs.Listing.{slots_from}
use Rattle.soundness.specs.Check.{all_below, clear}

-- the length of record p of the run
abbrev pub length_at : List ℕ → ℕ → ℕ
length_at b p = number_in the.length b p

-- f at n places from `at` on, added up
unfoldable pub sum_of : (ℕ → ℕ) → ℕ → ℕ → ℕ
sum_of f at zero = 0
sum_of f at (suc n) = sum_of f at n + f (at + n)

-- a slot's bytes waiting are the sum of its records' lengths
unfoldable pub bytes_rule : List ℕ → ℕ → Bool
bytes_rule b i = bytes_at b i == sum_of (length_at b) (first_at b i) (waiting_at b i)

unfoldable pub sums_rule : List ℕ → Bool
sums_rule b = all_below slots (bytes_rule b)

-- where no record waits, no byte does
unfoldable pub idle_rule : List ℕ → ℕ → Bool
idle_rule b i = not (waiting_at b i == 0) || bytes_at b i == 0

-- eight running totals side by side, modulo 65,536, in a line of any length that they fit in: the first eight places are 0, and each further one is f's value
-- eight places back, added to what stands there
pub record Strided (f : ℕ → ℕ) (n : ℕ) (v : List ℕ) : Type 0 where
  pub long : n + 8 ≤ length v
  pub starts : (i : ℕ) → i < 8 → slice_index v i ≡ 0
  pub steps : (p : ℕ) → p < n → slice_index v (p + 8) ≡ (slice_index v p + f p) % 65536

-- the totals behind the first n slots, modulo 65,536: place i holds that of all records before slot i
unfoldable pub Ended : List ℕ → ℕ → List ℕ → Type 0
Ended b n ends = (i : ℕ) → i ≤ n → slice_index ends i ≡ sum_of (length_at b) 0 (first_at b i) % 65536

-- the totals before slot i and behind it differ by its bytes waiting
unfoldable pub between_rule : List ℕ → List ℕ → ℕ → Bool
between_rule b ends i = (slice_index ends (i + 1) + (65536 - slice_index ends i)) % 65536 == bytes_at b i

-- what the check of the sums may take for granted: the rules of heads and of the pool, which are tested before
pub record Counted (b : List ℕ) (total : ℕ) : Type 0 where
  pub all : total ≡ first_at b slots
  pub few : total ≤ cells
  pub room : (i : ℕ) → i < slots → waiting_at b i ≤ room

-- "the list equals one worked out afresh"; 0 stands behind it
unfoldable pub fullest_rule : List ℕ → Bool
fullest_rule b =
    nat_le (listed_at b) listed
    && (clear b (note_place the.fullest + listed_at b) (listed - listed_at b) && same (slots_from b 0 (listed_at b)) (fullest_by (bytes_at b)))
