-- The line of an answer, as it is written.
use Rattle.std.specs.Prelude.{List, [], ◌∷◌, ◌++◌, ℕ}
use Rattle.text.specs.Commands.{spaced}

-- a letter, its numbers, each after one space, and the line feed
abbrev pub answer_line : ℕ → List ℕ → List ℕ
answer_line letter ns = letter ∷ spaced ns ++ 10 ∷ []
