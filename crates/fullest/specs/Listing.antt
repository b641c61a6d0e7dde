-- The slots that a memory lists as the fullest, one by one.
use Rattle.std.specs.Prelude.{ℕ, zero, suc, ◌+◌, ◌<◌, ◌≡◌, List, [], ◌∷◌, length, get_or, take}
use Rattle.rules.specs.Numbers.{listed}
use Rattle.memory.specs.Names as the
use Rattle.memory.specs.Layout.{note_place}
use Rattle.memory.specs.Reading.{listed_at}

abbrev pub slot_at : List ℕ → ℕ → ℕ
slot_at b k = get_or b (note_place the.fullest + k) 0

-- n of them, from the one at k on
abbrev pub slots_from : List ℕ → ℕ → ℕ → List ℕ
slots_from b k zero = []
slots_from b k (suc n) = slot_at b k ∷ slots_from b (k + 1) n

-- b' is b with the slots is listed, 0 behind them, and nothing else changed
pub record Lists (is : List ℕ) (b b' : List ℕ) : Type 0 where
  pub size : length b' ≡ length b
  pub count : listed_at b' ≡ length is
  pub places : (k : ℕ) → k < listed → slot_at b' k ≡ get_or is k 0
  pub before : take (note_place the.listed_count) b' ≡ take (note_place the.listed_count) b
