-- The commands: how each is written, and what a line asks for.
use Rattle.std.specs.Prelude.{◌≡◌, cond, List, [], ◌∷◌, ◌++◌, ℕ, zero, suc, ◌≤◌, eqb}
use Rattle.std.proofs.Math.Option.{Option, none, some}
use Rattle.rules.specs.Calls.{Call, to_open, to_put, to_close, to_next, to_start, to_ask, to_fullest}
use Rattle.std.specs.Prelude as answered
use Rattle.text.specs.declared.command.Command.{Command}
use Rattle.text.specs.declared.command.Command.TheVariants as command
use Rattle.text.specs.Digits.{largest, digits, Front, number, nothing, spaced_off}

-- ---- "`O weight`, `P slot ticket length reference`, `C slot ticket`, `N`. One space between"

-- each number after one space
abbrev pub spaced : List ℕ → List ℕ
spaced [] = []
spaced (n ∷ ns) = 32 ∷ digits n ++ spaced ns

-- the line of a command, by its letter: `O` is 79, `P` 80, `C` 67, `N` 78; Start and Ask have none
abbrev pub shown : Call → Option (List ℕ)
shown (to_open w) = some (79 ∷ spaced (w ∷ []))
shown (to_put i t n r) = some (80 ∷ spaced (i ∷ t ∷ n ∷ r ∷ []))
shown (to_close i t) = some (67 ∷ spaced (i ∷ t ∷ []))
shown to_next = some (78 ∷ spaced [])
shown (to_start e) = none
shown (to_ask i t) = none
shown to_fullest = none

-- "decimals up to 4,294,967,295": each number of the call is
abbrev pub Decimals : Call → Type 0
Decimals (to_open w) = w ≤ largest
Decimals (to_put i t n r) = (i ≤ largest) × (t ≤ largest) × (n ≤ largest) × (r ≤ largest)
Decimals (to_close i t) = (i ≤ largest) × (t ≤ largest)
Decimals to_next = Unit {0}
Decimals (to_start e) = Unit {0}
Decimals (to_ask i t) = (i ≤ largest) × (t ≤ largest)
Decimals to_fullest = Unit {0}

-- l is the line of the call c
pub record Shows (l : List ℕ) (c : Call) : Type 0 where
  pub line : shown c ≡ some l
  pub decimals : Decimals c

-- ---- What a line asks for, read from the front as the program does.

abbrev pub by_front : (ℕ → List ℕ → Option Call) → Front → Option Call
by_front f (number v rest) = f v rest
by_front f nothing = none

-- one space and a number, and then f
abbrev pub with_number : (ℕ → List ℕ → Option Call) → List ℕ → Option Call
with_number f l = by_front f (spaced_off l)

-- the line ends here
abbrev pub at_end : Call → List ℕ → Option Call
at_end c [] = some c
at_end c (x ∷ l) = none

-- after each letter
abbrev pub open_of : List ℕ → Option Call
open_of = with_number (λ w. at_end (to_open w))

abbrev pub put_of : List ℕ → Option Call
put_of = with_number (λ i. with_number (λ t. with_number (λ n. with_number (λ r. at_end (to_put i t n r)))))

abbrev pub close_of : List ℕ → Option Call
close_of = with_number (λ i. with_number (λ t. at_end (to_close i t)))

-- none for "a line of any other form"; the letters are those above
unfoldable pub command_of : List ℕ → Option Call
command_of [] = none
command_of (c ∷ cs) =
    cond (eqb c 79) (open_of cs)
    (cond (eqb c 80) (put_of cs) (cond (eqb c 67) (close_of cs) (cond (eqb c 78) (at_end to_next cs) none)))

-- ---- What the code answers.

-- n numbers after those read before, and then the line ends
unfoldable pub numbers_after : List ℕ → ℕ → List ℕ → answered.Option (List ℕ)
numbers_after ns zero [] = answered.Some ns
numbers_after ns zero (x ∷ l) = answered.None
numbers_after ns (suc n) l = elim (spaced_off l) [ number v rest ↦ numbers_after (ns ++ v ∷ []) n rest | nothing ↦ answered.None ]

abbrev pub numbers_of : ℕ → List ℕ → answered.Option (List ℕ)
numbers_of = numbers_after []

-- the call that its answer stands for
abbrev pub call_of : answered.Option Command → Option Call
call_of (answered.Some (command.Open w)) = some (to_open w)
call_of (answered.Some (command.Put i t n r)) = some (to_put i t n r)
call_of (answered.Some (command.Close i t)) = some (to_close i t)
call_of (answered.Some command.Next) = some to_next
call_of answered.None = none
