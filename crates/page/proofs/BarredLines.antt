-- "grep -v '^|'": a page is lines that begin with `|`, and no other line does, so what is left without them is lift's own output.
use mathlib.Core.Path.{◌≡◌, refl, sym, ap, ◌∙◌}
use mathlib.Core.Bool.{Bool, true, false, not, cond, ◌||◌}
use mathlib.Core.List.{List, [], ◌∷◌, ◌++◌, append_assoc}
use mathlib.Core.Option.{Option, none, some}
use Prim.Native.Nat.{ℕ, zero, suc, ◌+◌, ◌-◌}
use lib.Dec.{eqb}
use lib.ListN.{length, drop, replicate}
use borrow.Author.Tests.{not-true}
use Rattle.bits.specs.Bit.{bit}
use Rattle.lists.specs.Slots.{occurs}
use Rattle.lists.specs.Tests.{is_empty, all_of}
use Rattle.lists.proofs.TestLaws.{and-true}
use Rattle.answers.specs.Answer.{number_of, Answer, refused, given}
use Rattle.rules.specs.State.{State, weights}
use Rattle.rules.specs.Next.{Chosen, choose_by, next_call}
use Rattle.rules.specs.Calls.{open_call, put_call, close_call, Call, to_open, to_put, to_close, to_next, to_start, to_ask, to_fullest}
use Rattle.rules.specs.Listed.{opened_fields, taken_fields, closed_fields, sent_fields}
use Rattle.memory.specs.Memory.{on, sound_bytes}
use Rattle.memory.specs.Reading.{state_of}
use Rattle.text.specs.Digits.{digits}
use Rattle.text.specs.Lines.{lines_of}
use Rattle.text.specs.Commands.{spaced, command_of}
use Rattle.text.specs.Answers.{said, answer_to, line_answer, output}
use Rattle.text.proofs.PrintedLines.{NoFeed, no_feed_append, no_feed_digits, no_feed_spaced, line_first}
use Rattle.page.specs.Puts.{gap, aligned}
use Rattle.page.specs.Page.{order_word, position_word, term_word, column_word, columns_word, visit_word, to_visit_word, or_dash, term_shown, first_line, down, column_text, columns_line, cell_text, mark, row_start, row_line, cells_of, row_lines, scanned, page_text, page_by, page_of, page_on, page_under}
use Rattle.page.specs.Output.{output_with, is_barred, unbarred}

-- ---- no line feed inside a line

-- by a test that computes
clean : (l : List ℕ) → all_of (λ c. not (eqb c 10)) l ≡ true → NoFeed l
clean [] e = tt
clean (c ∷ cs) e = let (here, rest) = and-true (not (eqb c 10)) (all_of (λ c. not (eqb c 10)) cs) e in (not-true (eqb c 10) here, clean cs rest)

no_feed_dash : (n : ℕ) → NoFeed (or_dash n)
no_feed_dash zero = (refl, tt)
no_feed_dash (suc n) = no_feed_digits n

no_feed_spaces : (n : ℕ) → NoFeed (replicate n 32)
no_feed_spaces zero = tt
no_feed_spaces (suc n) = (refl, no_feed_spaces n)

no_feed_aligned : (w : ℕ) (t : List ℕ) → NoFeed t → NoFeed (aligned w t)
no_feed_aligned w t h = no_feed_append (gap w (length t)) t (no_feed_spaces (w - length t)) h

no_feed_down : (f : ℕ → List ℕ) (n : ℕ) → ((c : ℕ) → NoFeed (f c)) → NoFeed (down f n)
unfolding down
no_feed_down f zero h = tt
no_feed_down f (suc n) h = no_feed_append (f n) (down f n) (h n) (no_feed_down f n h)

no_feed_column : (c n : ℕ) → NoFeed (column_text c n)
no_feed_column c n = no_feed_aligned 3 (cond (eqb (n + 1) c) (62 ∷ digits n) (digits n)) (go (eqb (n + 1) c))
  where
    go : (b : Bool) → NoFeed (cond b (62 ∷ digits n) (digits n))
    go true = (refl, no_feed_digits n)
    go false = no_feed_digits n

no_feed_cell : (b : ℕ) → NoFeed (cell_text b)
no_feed_cell b = go (eqb b 1)
  where
    go : (t : Bool) → NoFeed (32 ∷ 32 ∷ cond t 49 46 ∷ [])
    go true = clean (32 ∷ 32 ∷ 49 ∷ []) refl
    go false = clean (32 ∷ 32 ∷ 46 ∷ []) refl

no_feed_mark : (sends : ℕ) (v : ℕ → Bool) (i : ℕ) → NoFeed (mark sends v i)
no_feed_mark sends v i = go (eqb i sends) (v i)
  where
    go : (a b : Bool) → NoFeed (cond a visit_word (cond b to_visit_word []))
    go true b = clean visit_word refl
    go false true = clean to_visit_word refl
    go false false = tt

-- ---- a page is lines that begin with `|`

pub record BarLine (t : List ℕ) : Type 0 where
  pub line : List ℕ
  pub whole : t ≡ (124 ∷ line) ++ 10 ∷ []
  pub no_feed : NoFeed line

pub data BarLines : List ℕ → Type 0 where
  no_more : BarLines []
  one_more : {t u : List ℕ} → BarLine t → BarLines u → BarLines (t ++ u)

-- the last piece set apart
last_of_four : (a b c d : List ℕ) → a ++ (b ++ (c ++ d)) ≡ (a ++ (b ++ c)) ++ d
last_of_four a b c d = simp append_assoc

last_of_five : (a b c d e : List ℕ) → a ++ (b ++ (c ++ (d ++ e))) ≡ (a ++ (b ++ (c ++ d))) ++ e
last_of_five a b c d e = simp append_assoc

first_bar : (k p t c : ℕ) → BarLine (first_line k p t c)
first_bar k p t c =
    let word : List ℕ = drop 1 order_word in
    let a : List ℕ = word ++ digits k in
    let b : List ℕ = position_word ++ digits p in
    let d : List ℕ = term_word ++ or_dash t in
    let e : List ℕ = column_word ++ or_dash c in
    record {
      line = a ++ (b ++ (d ++ e));
      whole = last_of_five (124 ∷ a) b d e (10 ∷ []);
      no_feed =
          no_feed_append a (b ++ (d ++ e)) (no_feed_append word (digits k) (clean word refl) (no_feed_digits k))
          (no_feed_append b (d ++ e) (no_feed_append position_word (digits p) (clean position_word refl) (no_feed_digits p))
          (no_feed_append d e (no_feed_append term_word (or_dash t) (clean term_word refl) (no_feed_dash t))
          (no_feed_append column_word (or_dash c) (clean column_word refl) (no_feed_dash c))));
    }

columns_bar : (k c : ℕ) → BarLine (columns_line k c)
columns_bar k c =
    let words : List ℕ = drop 1 columns_word in
    record {
      line = words ++ down (column_text c) k;
      whole = refl;
      no_feed = no_feed_append words (down (column_text c) k) (clean words refl) (no_feed_down (column_text c) k (no_feed_column c));
    }

row_bar : (i w k sends : ℕ) (v : ℕ → Bool) → BarLine (row_line i w (cells_of k w) (mark sends v i))
row_bar i w k sends v =
    let slot : List ℕ = aligned 8 (digits i) in
    let weight : List ℕ = aligned 9 (digits w) in
    let cells : List ℕ = cells_of k w in
    let m : List ℕ = mark sends v i in
    record {
      line = (slot ++ (weight ++ 32 ∷ 32 ∷ [])) ++ (cells ++ m);
      whole = last_of_four (row_start i w) cells m (10 ∷ []);
      no_feed =
          no_feed_append (slot ++ (weight ++ 32 ∷ 32 ∷ [])) (cells ++ m)
          (no_feed_append slot (weight ++ 32 ∷ 32 ∷ []) (no_feed_aligned 8 (digits i) (no_feed_digits i))
          (no_feed_append weight (32 ∷ 32 ∷ []) (no_feed_aligned 9 (digits w) (no_feed_digits w)) (clean (32 ∷ 32 ∷ []) refl)))
          (no_feed_append cells m (no_feed_down (λ c. cell_text (bit c w)) k (λ c. no_feed_cell (bit c w))) (no_feed_mark sends v i));
    }

rows_bar : (f : ℕ → List ℕ) (rows : List ℕ) → ((i : ℕ) → BarLine (f i)) → BarLines (row_lines f rows)
unfolding row_lines
rows_bar f [] h = no_more
rows_bar f (i ∷ rows) h = one_more (h i) (rows_bar f rows h)

text_bar : (k p c : ℕ) (rows : List ℕ) (f : ℕ → ℕ) (sends : ℕ) (v : ℕ → Bool) → BarLines (page_text k p c rows f sends v)
text_bar k p c rows f sends v =
    let lines : List ℕ = row_lines (λ i. row_line i (f i) (cells_of k (f i)) (mark sends v i)) rows in
    rw (append_assoc (first_line k p (term_shown p) c) (columns_line k c) lines)
    (one_more (first_bar k p (term_shown p) c) (one_more (columns_bar k c) (rows_bar _ rows (λ i. row_bar i (f i) k sends v))))

by_bar : (s : State) (x : Option Chosen) → BarLines (page_by s x)
by_bar s none = no_more
by_bar s (some x) =
    text_bar x.state.order x.state.scan.position (scanned s x) s.rows (weights s.channels) x.slot
    (λ i. eqb (occurs i x.state.scan.to_visit) 1)

pub page_bar : (b : List ℕ) → BarLines (page_on b)
unfolding page_on page_of
page_bar b = go (sound_bytes b) ((state_of b).parked || is_empty (state_of b).rows)
  where
    go : (t e : Bool) → BarLines (cond t (cond e [] (page_by (state_of b) (choose_by (state_of b).scan.visit (state_of b)))) [])
    go true true = no_more
    go true false = by_bar (state_of b) (choose_by (state_of b).scan.visit (state_of b))
    go false e = no_more

under_bar : (b : List ℕ) (c : Option Call) → BarLines (page_under b c)
under_bar b none = no_more
under_bar b (some (to_open w)) = no_more
under_bar b (some (to_put i t n r)) = no_more
under_bar b (some (to_close i t)) = no_more
under_bar b (some to_next) = page_bar b
under_bar b (some (to_start e)) = no_more
under_bar b (some (to_ask i t)) = no_more
under_bar b (some to_fullest) = no_more

-- ---- and lift's lines do not

record PlainLine (t : List ℕ) : Type 0 where
  line : List ℕ
  whole : t ≡ line ++ 10 ∷ []
  no_feed : NoFeed line
  unmarked : is_barred line ≡ false

said_plain : {A : Type 0} (letter : ℕ) (fields : A → List ℕ) → eqb letter 10 ≡ false → eqb letter 124 ≡ false → (a : Answer A) → PlainLine (said letter fields a)
said_plain letter fields h g (given a) =
    record { line = letter ∷ spaced (fields a); whole = refl; no_feed = (h, no_feed_spaced (fields a)); unmarked = g }
said_plain letter fields h g (refused n) =
    record { line = 82 ∷ spaced (number_of n ∷ []); whole = refl; no_feed = (refl, no_feed_spaced (number_of n ∷ [])); unmarked = refl }

unknown-plain : PlainLine (63 ∷ 10 ∷ [])
unknown-plain = record { line = 63 ∷ []; whole = refl; no_feed = (refl, tt); unmarked = refl }

answer-plain : (b : List ℕ) (c : Option Call) → PlainLine (answer_to b c).line
answer-plain b none = unknown-plain
answer-plain b (some (to_open w)) = said_plain 79 opened_fields refl refl (on (open_call w) b).answer
answer-plain b (some (to_put i t n r)) = said_plain 80 taken_fields refl refl (on (put_call i t n r) b).answer
answer-plain b (some (to_close i t)) = said_plain 67 closed_fields refl refl (on (close_call i t) b).answer
answer-plain b (some to_next) = said_plain 78 sent_fields refl refl (on next_call b).answer
answer-plain b (some (to_start e)) = unknown-plain
answer-plain b (some (to_ask i t)) = unknown-plain
answer-plain b (some to_fullest) = unknown-plain

-- ---- the lines without a bar

unbarred-line : (l rest : List ℕ) → NoFeed l → is_barred l ≡ false → unbarred (lines_of (l ++ 10 ∷ rest)) ≡ l ∷ unbarred (lines_of rest)
unfolding unbarred
unbarred-line l rest h g = rw (line_first l rest h, g)

unbarred_bar : (l rest : List ℕ) → NoFeed l → unbarred (lines_of ((124 ∷ l) ++ 10 ∷ rest)) ≡ unbarred (lines_of rest)
unfolding unbarred
unbarred_bar l rest h = rw (line_first (124 ∷ l) rest (refl, h))

-- lines that begin with `|` leave nothing
unbarred-lines : {t : List ℕ} (rest : List ℕ) → BarLines t → unbarred (lines_of (t ++ rest)) ≡ unbarred (lines_of rest)
unbarred-lines rest no_more = refl
unbarred-lines rest (one_more {t} {u} one more) =
    ap (λ (x : List ℕ). unbarred (lines_of x)) (append_assoc t u rest)
    ∙ ap (λ (x : List ℕ). unbarred (lines_of (x ++ (u ++ rest)))) one.whole
    ∙ ap (λ (x : List ℕ). unbarred (lines_of x)) (append_assoc (124 ∷ one.line) (10 ∷ []) (u ++ rest))
    ∙ unbarred_bar one.line (u ++ rest) one.no_feed
    ∙ unbarred-lines rest more

-- what is left of the program's output is lift's
pub lift-left : (b : List ℕ) (ls : List (List ℕ)) → unbarred (lines_of (output_with b ls)) ≡ lines_of (output b ls)
unfolding output_with output unbarred lines_of
lift-left b [] = refl
lift-left b (l ∷ ls) =
    let one : PlainLine (line_answer b l).line = answer-plain b (command_of l) in
    let under : List ℕ = page_under b (command_of l) in
    let rest : List ℕ = output_with (line_answer b l).bytes ls in
    let plain : List ℕ = output (line_answer b l).bytes ls in
    ap (λ (x : List ℕ). unbarred (lines_of (x ++ (under ++ rest)))) one.whole
    ∙ ap (λ (x : List ℕ). unbarred (lines_of x)) (append_assoc one.line (10 ∷ []) (under ++ rest))
    ∙ unbarred-line one.line (under ++ rest) one.no_feed one.unmarked
    ∙ ap (λ (x : List (List ℕ)). one.line ∷ x) (unbarred-lines rest (under_bar b (command_of l)) ∙ lift-left (line_answer b l).bytes ls)
    ∙ sym (line_first one.line plain one.no_feed)
    ∙ ap lines_of (sym (append_assoc one.line (10 ∷ []) plain))
    ∙ ap (λ (x : List ℕ). lines_of (x ++ plain)) (sym one.whole)
