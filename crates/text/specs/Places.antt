-- A number at a place of a text, as the code answers it: with the place after it.
use Rattle.std.specs.Prelude.{Option, Some, None, List, ℕ, ◌-◌, length, drop}
use Rattle.text.specs.Digits.{Front, number, nothing, number_off, spaced_off}

-- in a text of n bytes, what is left stands at the place n less its length
abbrev pub placed : ℕ → Front → Option (ℕ × ℕ)
placed n (number v rest) = Some (v, n - length rest)
placed n nothing = None

abbrev pub decimal_at : List ℕ → ℕ → Option (ℕ × ℕ)
decimal_at s at = placed (length s) (number_off (drop at s))

abbrev pub spaced_at : List ℕ → ℕ → Option (ℕ × ℕ)
spaced_at s at = placed (length s) (spaced_off (drop at s))
