-- Plain decimals: how a number is written, and how one is read off the front of a text.
use Rattle.std.specs.Prelude.{Bool, cond, ◌&&◌, List, [], ◌∷◌, ◌++◌, ℕ, zero, suc, ◌+◌, ◌*◌, ◌-◌, ◌/◌, ◌%◌, leb, ltb, eqb}

-- "plain decimals up to 4,294,967,295"
abbrev pub largest : ℕ
largest = 4294967295

-- n in decimal, the highest digit first; k is a bound on the turns, and n itself is enough
unfoldable pub digits_by : ℕ → ℕ → List ℕ
digits_by zero n = (48 + n) ∷ []
digits_by (suc k) n =
    let higher = digits_by k (n / 10) in
    cond (ltb n 10) ((48 + n) ∷ []) (higher ++ (48 + n % 10) ∷ [])

-- n in plain decimal, "without leading zeros"
abbrev pub digits : ℕ → List ℕ
digits n = digits_by n n

-- what stands at the front of a text: a number with what follows it, or no number
pub data Front : Type 0 where
  number : ℕ → List ℕ → Front
  nothing : Front

unfoldable pub is_digit : ℕ → Bool
is_digit c = leb 48 c && leb c 57

-- v with one more digit
abbrev pub more : ℕ → ℕ → ℕ
more v c = v * 10 + (c - 48)

-- the digits that follow the value v
unfoldable pub digits_off : ℕ → List ℕ → Front
digits_off v [] = number v []
digits_off v (c ∷ cs) =
    let later = digits_off (more v c) cs in
    cond (is_digit c) (cond (leb (more v c) largest) later nothing) (number v (c ∷ cs))

-- after the digit 0 no digit follows
abbrev pub zero_off : List ℕ → Front
zero_off [] = number 0 []
zero_off (c ∷ cs) = cond (is_digit c) nothing (number 0 (c ∷ cs))

-- a plain decimal
unfoldable pub number_off : List ℕ → Front
number_off [] = nothing
number_off (c ∷ cs) = cond (is_digit c) (cond (eqb c 48) (zero_off cs) (digits_off (c - 48) cs)) nothing

-- a plain decimal after "one space"
unfoldable pub spaced_off : List ℕ → Front
spaced_off [] = nothing
spaced_off (c ∷ cs) = cond (eqb c 32) (number_off cs) nothing
