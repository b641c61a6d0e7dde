-- "Each line prints one": the output has as many lines as the text.
use mathlib.Core.Path.{◌≡◌, refl, sym, ap, subst, ◌∙◌}
use mathlib.Core.Bool.{false}
use mathlib.Core.List.{List, [], ◌∷◌, ◌++◌, append_assoc}
use mathlib.Core.Option.{Option, none, some}
use Prim.Native.Nat.{ℕ, suc, ◌+◌, ◌/◌, ◌%◌}
use native.Mathlib.Omega.{arith}
use lib.Dec.{eqb}
use lib.ListN.{length}
use borrow.Author.Tests.{ne_eqb}
use Rattle.answers.specs.Answer.{number_of, Answer, refused, given}
use Rattle.rules.specs.Next.{next_call}
use Rattle.rules.specs.Calls.{open_call, put_call, close_call, Call, to_open, to_put, to_close, to_next, to_start, to_ask, to_fullest}
use Rattle.memory.specs.Memory.{on}
use Rattle.text.specs.Lines.{lines_of}
use Rattle.text.specs.Digits.{digits}
use Rattle.text.specs.Commands.{spaced, command_of}
use Rattle.rules.specs.Listed.{opened_fields, taken_fields, closed_fields, sent_fields}
use Rattle.text.specs.Answers.{said, answer_to, line_answer, output}
use Rattle.text.proofs.DigitLaws.{digits-one, digits_more, by_digits}

-- no byte is a line feed
abbrev pub NoFeed : List ℕ → Type 0
NoFeed [] = Unit {0}
NoFeed (c ∷ cs) = (eqb c 10 ≡ false) × NoFeed cs

pub no_feed_append : (a b : List ℕ) → NoFeed a → NoFeed b → NoFeed (a ++ b)
no_feed_append [] b h k = k
no_feed_append (c ∷ a) b h k = (h.0, no_feed_append a b h.1 k)

no_feed_digit : (d : ℕ) → eqb (48 + d) 10 ≡ false
no_feed_digit d = ne_eqb (48 + d) 10 (λ e. omega arith)

pub no_feed_digits : (n : ℕ) → NoFeed (digits n)
no_feed_digits =
    by_digits (λ n. NoFeed (digits n)) (λ n h. subst NoFeed (sym (digits-one n h)) (no_feed_digit n, tt))
    (λ n h k. subst NoFeed (sym (digits_more n h)) (no_feed_append (digits (n / 10)) ((48 + n % 10) ∷ []) k (no_feed_digit (n % 10), tt)))

pub no_feed_spaced : (ns : List ℕ) → NoFeed (spaced ns)
no_feed_spaced [] = tt
no_feed_spaced (n ∷ ns) = (refl, no_feed_append (digits n) (spaced ns) (no_feed_digits n) (no_feed_spaced ns))

-- a line and its line feed are the first line of what begins with them
pub line_first : (l rest : List ℕ) → NoFeed l → lines_of (l ++ 10 ∷ rest) ≡ l ∷ lines_of rest
unfolding lines_of
line_first [] rest h = refl
line_first (c ∷ l) rest h = rw (h.0, line_first l rest h.1)

-- one line, with its line feed
record OneLine (t : List ℕ) : Type 0 where
  line : List ℕ
  whole : t ≡ line ++ 10 ∷ []
  clean : NoFeed line

said-line : {A : Type 0} (letter : ℕ) (fields : A → List ℕ) → eqb letter 10 ≡ false → (a : Answer A) → OneLine (said letter fields a)
said-line letter fields h (given a) = record { line = letter ∷ spaced (fields a); whole = refl; clean = (h, no_feed_spaced (fields a)) }
said-line letter fields h (refused n) = record { line = 82 ∷ spaced (number_of n ∷ []); whole = refl; clean = (refl, no_feed_spaced (number_of n ∷ [])) }

unknown-line : OneLine (63 ∷ 10 ∷ [])
unknown-line = record { line = 63 ∷ []; whole = refl; clean = (refl, tt) }

answer-is-line : (b : List ℕ) (c : Option Call) → OneLine (answer_to b c).line
answer-is-line b none = unknown-line
answer-is-line b (some (to_open w)) = said-line 79 opened_fields refl (on (open_call w) b).answer
answer-is-line b (some (to_put i t n r)) = said-line 80 taken_fields refl (on (put_call i t n r) b).answer
answer-is-line b (some (to_close i t)) = said-line 67 closed_fields refl (on (close_call i t) b).answer
answer-is-line b (some to_next) = said-line 78 sent_fields refl (on next_call b).answer
answer-is-line b (some (to_start e)) = unknown-line
answer-is-line b (some (to_ask i t)) = unknown-line
answer-is-line b (some to_fullest) = unknown-line

-- the lines that a text's lines print
pub output-lines : (b : List ℕ) (ls : List (List ℕ)) → length (lines_of (output b ls)) ≡ length ls
unfolding output lines_of
output-lines b [] = refl
output-lines b (l ∷ ls) =
    let rest : List ℕ = output (line_answer b l).bytes ls in
    let one : OneLine (line_answer b l).line = answer-is-line b (command_of l) in
    ap (λ (t : List ℕ). length (lines_of (t ++ rest))) one.whole
    ∙ ap (λ (t : List ℕ). length (lines_of t)) (append_assoc one.line (10 ∷ []) rest)
    ∙ ap length (line_first one.line rest one.clean)
    ∙ ap suc (output-lines (line_answer b l).bytes ls)
