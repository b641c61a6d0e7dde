-- What the command program prints: the line of each answer, the lines of a text, and the whole output.
use Rattle.std.specs.Prelude.{◌≡◌, cond, List, [], ◌∷◌, ◌++◌, ℕ, ◌+◌, ◌*◌, ◌≤◌, ltb, length, take}
use Rattle.std.proofs.Math.Option.{Option, none, some}
use Rattle.answers.specs.Answer.{number_of, Answer, refused, given}
use Rattle.rules.specs.Numbers.{falling}
use Rattle.rules.specs.Next.{next_call}
use Rattle.rules.specs.Calls.{open_call, put_call, close_call, Call, to_open, to_put, to_close, to_next, to_start, to_ask, to_fullest}
use Rattle.rules.specs.Listed.{opened_fields, taken_fields, closed_fields, sent_fields}
use Rattle.memory.specs.Memory.{Left, on, fresh_memory}
use Rattle.text.specs.Lines.{lines_of}
use Rattle.text.specs.Commands.{command_of}
use Rattle.octets.specs.Writing.{written}
use Rattle.octets.specs.Wrote.{Wrote}
use Rattle.octets.specs.declared.writer.Writer.{Writer}
use Rattle.text.specs.Writing.{answer_line}

-- ---- "the letter and the answer's fields as listed above, or `R` and the number"

-- `R` is 82
abbrev pub said : {A : Type 0} → ℕ → (A → List ℕ) → Answer A → List ℕ
said letter fields (given a) = answer_line letter (fields a)
said letter fields (refused n) = answer_line 82 (number_of n ∷ [])

-- `?` alone: 63
abbrev pub unknown : List ℕ
unknown = 63 ∷ 10 ∷ []

-- ---- "Each line prints one".

-- the memory left and the line printed
pub record Printed : Type 0 where
  pub bytes : List ℕ
  pub line : List ℕ

abbrev pub printed : {A : Type 0} → ℕ → (A → List ℕ) → Left A → Printed
printed letter fields left = record { bytes = left.bytes; line = said letter fields left.answer }

abbrev pub other : List ℕ → Printed
other b = record { bytes = b; line = unknown }

-- a call on the memory b, by its letter: `O` is 79, `P` 80, `C` 67, `N` 78; no line asks for Start or Ask
abbrev pub call_answer : List ℕ → Call → Printed
call_answer b (to_open w) = printed 79 opened_fields (on (open_call w) b)
call_answer b (to_put i t n r) = printed 80 taken_fields (on (put_call i t n r) b)
call_answer b (to_close i t) = printed 67 closed_fields (on (close_call i t) b)
call_answer b to_next = printed 78 sent_fields (on next_call b)
call_answer b (to_start e) = other b
call_answer b (to_ask i t) = other b
call_answer b to_fullest = other b

-- "or `?` for a line of any other form"
abbrev pub answer_to : List ℕ → Option Call → Printed
answer_to b none = other b
answer_to b (some c) = call_answer b c

abbrev pub line_answer : List ℕ → List ℕ → Printed
line_answer b l = answer_to b (command_of l)

-- ---- The lines of a text, each given the memory that the one before it left.
unfoldable pub output : List ℕ → List (List ℕ) → List ℕ
output b [] = []
output b (l ∷ ls) = (line_answer b l).line ++ output (line_answer b l).bytes ls

-- ---- The program: what it prints for an input.

-- "Input above 65,536 bytes prints only `? input`."
abbrev pub most : ℕ
most = 65536

abbrev pub too_long : List ℕ
too_long = 63 ∷ 32 ∷ 105 ∷ 110 ∷ 112 ∷ 117 ∷ 116 ∷ 10 ∷ []

-- "Start writes the fresh state": the lines are answered from there on. "`lift` uses 1." (02 §3)
unfoldable pub lift : List ℕ → List ℕ
lift input = cond (ltb most (length input)) too_long (output (fresh_memory falling) (lines_of input))

-- ---- What the code says of what it wrote.

-- room for any line: seven numbers of 32 bits take 11 bytes each at the most, the letter and the line feed one each
abbrev pub widest : ℕ
widest = 80

-- `line` stands in `after` from `at` on, and r is the place after it
pub record Prints (before : List ℕ) (at : ℕ) (line : List ℕ) (r : ℕ) (after : List ℕ) : Type 0 where
  pub place : r ≡ at + length line
  pub text : after ≡ written before at line
  pub short : length line ≤ widest

-- no answer has more numbers
abbrev pub fields_most : ℕ
fields_most = 7

-- a writer has room for any line
abbrev pub HasRoom : Writer → Type 0
HasRoom w = w.at + widest ≤ length w.out.now

-- the line is written
pub record PrintsBy (before : Writer) (line : List ℕ) (after : Writer) : Type 0 where
  pub wrote : Wrote before line after
  pub short : length line ≤ widest

abbrev pub half_widest : ℕ
half_widest = 40

-- room for what n bytes of text print: an empty line prints `?`; any other has two bytes, its line feed with it, or is the last
abbrev pub room_for : ℕ → ℕ
room_for n = half_widest * n + half_widest

-- the first r bytes of `out` are the whole text
pub record Stands (text : List ℕ) (r : ℕ) (out : List ℕ) : Type 0 where
  pub whole : take r out ≡ text
  pub room : r ≤ length out
  -- this follows; whoever takes those bytes is asked for it
  pub counted : r ≡ length (take r out)
