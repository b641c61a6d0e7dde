-- Lines of document 01 and lines of other forms, read.
use mathlib.Core.Path.{◌≡◌, refl}
use mathlib.Core.List.{[], ◌∷◌}
use mathlib.Core.Option.{none, some}
use Rattle.rules.specs.Calls.{to_open, to_put, to_close, to_next}
use Rattle.text.specs.Digits.{digits_by, is_digit, digits_off, number_off, spaced_off}
use Rattle.text.specs.Lines.{lines_of}
use Rattle.text.specs.Commands.{shown, command_of}

-- `O 1`
open_line : command_of (79 ∷ 32 ∷ 49 ∷ []) ≡ some (to_open 1)
unfolding command_of spaced_off number_off digits_off is_digit
open_line = refl

-- `P 0 1 1014 7`
put-line : command_of (80 ∷ 32 ∷ 48 ∷ 32 ∷ 49 ∷ 32 ∷ 49 ∷ 48 ∷ 49 ∷ 52 ∷ 32 ∷ 55 ∷ []) ≡ some (to_put 0 1 1014 7)
unfolding command_of spaced_off number_off digits_off is_digit
put-line = refl

-- the same, written
put-shown : shown (to_put 0 1 1014 7) ≡ some (80 ∷ 32 ∷ 48 ∷ 32 ∷ 49 ∷ 32 ∷ 49 ∷ 48 ∷ 49 ∷ 52 ∷ 32 ∷ 55 ∷ [])
unfolding digits_by
put-shown = refl

-- `C 0 1`, `N`
close_line : command_of (67 ∷ 32 ∷ 48 ∷ 32 ∷ 49 ∷ []) ≡ some (to_close 0 1)
unfolding command_of spaced_off number_off digits_off is_digit
close_line = refl

next-line : command_of (78 ∷ []) ≡ some to_next
unfolding command_of
next-line = refl

-- `O 4294967295` is read, `O 4294967296` is not
largest-read : command_of (79 ∷ 32 ∷ 52 ∷ 50 ∷ 57 ∷ 52 ∷ 57 ∷ 54 ∷ 55 ∷ 50 ∷ 57 ∷ 53 ∷ []) ≡ some (to_open 4294967295)
unfolding command_of spaced_off number_off digits_off is_digit
largest-read = refl

too_large : command_of (79 ∷ 32 ∷ 52 ∷ 50 ∷ 57 ∷ 52 ∷ 57 ∷ 54 ∷ 55 ∷ 50 ∷ 57 ∷ 54 ∷ []) ≡ none
unfolding command_of spaced_off number_off digits_off is_digit
too_large = refl

-- an empty line; `X`; `O 01`; `O  1`; `O +1`; `O 1` and a space; `N` and a carriage return; `C 0`
others : (command_of [] ≡ none)
    × (command_of (88 ∷ []) ≡ none)
    × (command_of (79 ∷ 32 ∷ 48 ∷ 49 ∷ []) ≡ none)
    × (command_of (79 ∷ 32 ∷ 32 ∷ 49 ∷ []) ≡ none)
    × (command_of (79 ∷ 32 ∷ 43 ∷ 49 ∷ []) ≡ none)
    × (command_of (79 ∷ 32 ∷ 49 ∷ 32 ∷ []) ≡ none)
    × (command_of (78 ∷ 13 ∷ []) ≡ none)
    × (command_of (67 ∷ 32 ∷ 48 ∷ []) ≡ none)
unfolding command_of spaced_off number_off digits_off is_digit
others = (refl, refl, refl, refl, refl, refl, refl, refl)

-- `N`, an empty line, and `O` without a line feed: three lines; a line feed at the end makes no line after it; empty input has none
lines-read : (lines_of (78 ∷ 10 ∷ 10 ∷ 79 ∷ []) ≡ (78 ∷ []) ∷ [] ∷ (79 ∷ []) ∷ []) × (lines_of (78 ∷ 10 ∷ []) ≡ (78 ∷ []) ∷ []) × (lines_of [] ≡ [])
unfolding lines_of
lines-read = (refl, refl, refl)
