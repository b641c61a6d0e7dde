-- The program prints what the rules say: on the memory of a sound state each line's answer is the rules' own, and the memory left is the next state's.
-- With it document 01's listing is computed on states, whole.
use mathlib.Core.Path.{◌≡◌, refl, ap, ap₂, ◌∙◌}
use mathlib.Core.List.{List, [], ◌∷◌, ◌++◌}
use mathlib.Core.Option.{Option, none, some}
use Prim.Native.Nat.{ℕ, ◌≤◌}
use native.Mathlib.Omega.{arith}
use lib.ListN.{length}
use Rattle.bits.specs.Bit.{bit}
use Rattle.bits.specs.Order.{order}
use Rattle.bits.specs.Trailing.{trailing}
use Rattle.spread.specs.Sequence.{term}
use Rattle.spread.specs.Visits.{column_at}
use Rattle.answers.specs.Answer.{number_of, refused, given}
use Rattle.rules.specs.Numbers.{falling}
use Rattle.rules.specs.State.{State, fresh, cost, round_over, order_of, column_of, shared_use}
use Rattle.rules.specs.Reply.{Reply, after}
use Rattle.rules.specs.Next.{scanning, next_call}
use Rattle.rules.specs.Calls.{lowest, open_call, put_call, close_call, Call, to_open, to_put, to_close, to_next, to_start, to_ask, to_fullest}
use Rattle.rules.specs.Facts.{Sound}
use Rattle.rules.proofs.Kept.{open_kept, put-kept, close_kept, next-kept, fresh-sound}
use Rattle.memory.specs.Layout.{memory_of}
use Rattle.memory.specs.Memory.{replied, on}
use Rattle.memory.proofs.OnLaws.{on-sound, on-after}
use Rattle.text.specs.Lines.{lines_of}
use Rattle.text.specs.Digits.{digits_by, is_digit, digits_off, number_off, spaced_off}
use Rattle.text.specs.Commands.{command_of}
use Rattle.text.specs.Writing.{answer_line}
use Rattle.rules.specs.Listed.{opened_fields, taken_fields, closed_fields, sent_fields}
use Rattle.text.specs.Answers.{said, unknown, answer_to, output, most, lift}
use Rattle.text.proofs.ShownCommands.{command_exact}
use Rattle.text.proofs.OutputLaws.{lift-short}

-- the state left and the line printed
pub record Ruled : Type 0 where
  pub state : State
  pub line : List ℕ

-- `R` is 82
abbrev pub reply_line : {A : Type 0} → ℕ → (A → List ℕ) → Reply A → List ℕ
reply_line letter fields (refused n) = answer_line 82 (number_of n ∷ [])
reply_line letter fields (given d) = answer_line letter (fields d.fields)

abbrev pub ruled : {A : Type 0} → State → ℕ → (A → List ℕ) → Reply A → Ruled
ruled s letter fields r = record { state = after s r; line = reply_line letter fields r }

abbrev pub passed : State → Ruled
passed s = record { state = s; line = unknown }

-- what the rules say to a line, in the state s, by its letter: `O` is 79, `P` 80, `C` 67, `N` 78
abbrev pub ruled_to : State → Option Call → Ruled
ruled_to s none = passed s
ruled_to s (some (to_open w)) = ruled s 79 opened_fields (open_call w s)
ruled_to s (some (to_put i t n r)) = ruled s 80 taken_fields (put_call i t n r s)
ruled_to s (some (to_close i t)) = ruled s 67 closed_fields (close_call i t s)
ruled_to s (some to_next) = ruled s 78 sent_fields (next_call s)
ruled_to s (some (to_start e)) = passed s
ruled_to s (some (to_ask i t)) = passed s
ruled_to s (some to_fullest) = passed s

unfoldable pub ruled_output : State → List (List ℕ) → List ℕ
ruled_output s [] = []
ruled_output s (l ∷ ls) = (ruled_to s (command_of l)).line ++ ruled_output (ruled_to s (command_of l)).state ls

-- ---- On the memory of a sound state the answers are the rules'.

record Follows (b : List ℕ) (s : State) (c : Option Call) : Type 0 where
  line : (answer_to b c).line ≡ (ruled_to s c).line
  memory : (answer_to b c).bytes ≡ memory_of (ruled_to s c).state
  sound : Sound (ruled_to s c).state

module _ {A : Type 0} (letter : ℕ) (fields : A → List ℕ) where
  reply-line : (b : List ℕ) (r : Reply A) → said letter fields (replied b r).answer ≡ reply_line letter fields r
  reply-line b (refused n) = refl
  reply-line b (given d) = refl

  on_line : (f : State → Reply A) {s : State} → Sound s → said letter fields (on f (memory_of s)).answer ≡ reply_line letter fields (f s)
  on_line f {s} S = rw (on-sound f S) (reply-line (memory_of s) (f s))

follows : {s : State} → Sound s → (l : List ℕ) → Follows (memory_of s) s (command_of l)
follows {s} S l = go (command_of l) refl
  where
    go : (c : Option Call) → command_of l ≡ c → Follows (memory_of s) s c
    go none e = record { line = refl; memory = refl; sound = S }
    go (some (to_open w)) e = record { line = on_line 79 opened_fields (open_call w) S; memory = on-after (open_call w) S; sound = open_kept w s S }
    go (some (to_put i t n r)) e =
        record {
          line = on_line 80 taken_fields (put_call i t n r) S;
          memory = on-after (put_call i t n r) S;
          sound = put-kept i t n r s (omega (arith, ((command_exact l (to_put i t n r)).0 e).decimals.3)) S;
        }
    go (some (to_close i t)) e = record { line = on_line 67 closed_fields (close_call i t) S; memory = on-after (close_call i t) S; sound = close_kept i t s S }
    go (some to_next) e = record { line = on_line 78 sent_fields next_call S; memory = on-after next_call S; sound = next-kept s S }
    go (some (to_start n)) e = record { line = refl; memory = refl; sound = S }
    go (some (to_ask i t)) e = record { line = refl; memory = refl; sound = S }
    go (some to_fullest) e = record { line = refl; memory = refl; sound = S }

pub output-ruled : {s : State} → Sound s → (ls : List (List ℕ)) → output (memory_of s) ls ≡ ruled_output s ls
unfolding output ruled_output
output-ruled {s = s} S [] = refl
output-ruled {s = s} S (l ∷ ls) =
    let f = follows S l in
    ap₂ ◌++◌ f.line (ap (λ (m : List ℕ). output m ls) f.memory ∙ output-ruled {s = (ruled_to s (command_of l)).state} f.sound ls)

-- an input that is not too long prints what the rules say to its lines, from edition 1's fresh state on
pub lift-ruled : (input : List ℕ) → length input ≤ most → lift input ≡ ruled_output (fresh falling) (lines_of input)
lift-ruled input h = lift-short input h ∙ output-ruled (fresh-sound falling (omega arith, omega arith)) (lines_of input)

-- ---- The listing of document 01 with 1,014 for 1,024 (02 §1): the input, and "Output, whole".
abbrev pub listed : List ℕ
listed =
    79 ∷ 32 ∷ 49 ∷ 10
    ∷ 79 ∷ 32 ∷ 50 ∷ 10
    ∷ 80 ∷ 32 ∷ 48 ∷ 32 ∷ 49 ∷ 32 ∷ 49 ∷ 48 ∷ 49 ∷ 52 ∷ 32 ∷ 55 ∷ 10
    ∷ 80 ∷ 32 ∷ 49 ∷ 32 ∷ 49 ∷ 32 ∷ 54 ∷ 48 ∷ 48 ∷ 32 ∷ 56 ∷ 10
    ∷ 80 ∷ 32 ∷ 49 ∷ 32 ∷ 49 ∷ 32 ∷ 53 ∷ 48 ∷ 48 ∷ 32 ∷ 57 ∷ 10
    ∷ 78 ∷ 10
    ∷ 78 ∷ 10
    ∷ 67 ∷ 32 ∷ 48 ∷ 32 ∷ 49 ∷ 10
    ∷ 78 ∷ 10
    ∷ 78 ∷ 10
    ∷ 67 ∷ 32 ∷ 48 ∷ 32 ∷ 49 ∷ 10
    ∷ 79 ∷ 32 ∷ 51 ∷ 10
    ∷ 88 ∷ 10 ∷ []

abbrev pub whole : List ℕ
whole =
    79 ∷ 32 ∷ 48 ∷ 32 ∷ 49 ∷ 10
    ∷ 79 ∷ 32 ∷ 49 ∷ 32 ∷ 49 ∷ 10
    ∷ 80 ∷ 32 ∷ 48 ∷ 32 ∷ 49 ∷ 10
    ∷ 80 ∷ 32 ∷ 48 ∷ 32 ∷ 49 ∷ 10
    ∷ 80 ∷ 32 ∷ 49 ∷ 32 ∷ 50 ∷ 10
    ∷ 78 ∷ 32 ∷ 49 ∷ 32 ∷ 49 ∷ 32 ∷ 54 ∷ 48 ∷ 48 ∷ 32 ∷ 56 ∷ 32 ∷ 48 ∷ 32 ∷ 49 ∷ 32 ∷ 49 ∷ 10
    ∷ 78 ∷ 32 ∷ 48 ∷ 32 ∷ 49 ∷ 32 ∷ 49 ∷ 48 ∷ 49 ∷ 52 ∷ 32 ∷ 55 ∷ 32 ∷ 48 ∷ 32 ∷ 49 ∷ 32 ∷ 49 ∷ 10
    ∷ 67 ∷ 32 ∷ 49 ∷ 10
    ∷ 78 ∷ 32 ∷ 49 ∷ 32 ∷ 49 ∷ 32 ∷ 53 ∷ 48 ∷ 48 ∷ 32 ∷ 57 ∷ 32 ∷ 49 ∷ 32 ∷ 49 ∷ 32 ∷ 49 ∷ 10
    ∷ 82 ∷ 32 ∷ 56 ∷ 10
    ∷ 82 ∷ 32 ∷ 50 ∷ 10
    ∷ 79 ∷ 32 ∷ 48 ∷ 32 ∷ 50 ∷ 10
    ∷ 63 ∷ 10 ∷ []

listing : ruled_output (fresh falling) (lines_of listed) ≡ whole
unfolding ruled_output lines_of command_of spaced_off number_off digits_off digits_by is_digit fresh open_call put_call close_call next_call lowest scanning order_of column_of cost round_over column_at term trailing bit order shared_use
listing = refl

pub listing_lifted : lift listed ≡ whole
listing_lifted = lift-ruled listed (omega arith) ∙ listing
