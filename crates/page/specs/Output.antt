-- What the program `matrix` prints: lift's line for each command, and the page under it.
use Rattle.std.specs.Prelude.{Bool, false, cond, List, [], ◌∷◌, ◌++◌, ℕ, eqb}
use Rattle.text.specs.Commands.{command_of}
use Rattle.text.specs.Answers.{line_answer}
use Rattle.page.specs.Page.{page_under}

-- each line is given the memory that the one before it left
unfoldable pub output_with : List ℕ → List (List ℕ) → List ℕ
output_with b [] = []
output_with b (l ∷ ls) = (line_answer b l).line ++ (page_under b (command_of l) ++ output_with (line_answer b l).bytes ls)

-- whether a line begins with `|` (124), and the lines that do not
abbrev pub is_barred : List ℕ → Bool
is_barred [] = false
is_barred (c ∷ cs) = eqb c 124

unfoldable pub unbarred : List (List ℕ) → List (List ℕ)
unbarred [] = []
unbarred (l ∷ ls) = cond (is_barred l) (unbarred ls) (l ∷ unbarred ls)
