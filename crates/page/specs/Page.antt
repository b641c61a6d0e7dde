-- The page of a send: what support has on paper after the terms that this Next takes, and before the record leaves.
--
--     |  order 3   P 1   term 1   column 2
--     |    slot   weight   >2  1  0
--     |       0        5    1  .  1   visit
--     |       2        4    1  .  .   to visit
--     |       1        3    .  1  1
use Rattle.std.specs.Prelude.{Bool, cond, ◌||◌, List, [], ◌∷◌, ◌++◌, ℕ, zero, suc, ◌+◌, ◌*◌, eqb}
use Rattle.std.proofs.Math.Option.{Option, none, some}
use Rattle.bits.specs.Bit.{bit}
use Rattle.lists.specs.Slots.{occurs}
use Rattle.lists.specs.Tests.{is_empty}
use Rattle.spread.specs.Limits.{columns}
use Rattle.spread.specs.Sequence.{term}
use Rattle.spread.specs.Visits.{column_at}
use Rattle.rules.specs.Numbers.{slots}
use Rattle.rules.specs.State.{State, weights}
use Rattle.rules.specs.Next.{Chosen, choose_by}
use Rattle.rules.specs.Calls.{Call, to_open, to_put, to_close, to_next, to_start, to_ask, to_fullest}
use Rattle.memory.specs.Memory.{sound_bytes}
use Rattle.memory.specs.Reading.{state_of}
use Rattle.text.specs.Digits.{digits}
use Rattle.page.specs.Puts.{aligned}

-- ---- the first line: `|  order `, `   P `, `   term `, `   column `, each with its number

abbrev pub order_word : List ℕ
order_word = 124 ∷ 32 ∷ 32 ∷ 111 ∷ 114 ∷ 100 ∷ 101 ∷ 114 ∷ 32 ∷ []

abbrev pub position_word : List ℕ
position_word = 32 ∷ 32 ∷ 32 ∷ 80 ∷ 32 ∷ []

abbrev pub term_word : List ℕ
term_word = 32 ∷ 32 ∷ 32 ∷ 116 ∷ 101 ∷ 114 ∷ 109 ∷ 32 ∷ []

abbrev pub column_word : List ℕ
column_word = 32 ∷ 32 ∷ 32 ∷ 99 ∷ 111 ∷ 108 ∷ 117 ∷ 109 ∷ 110 ∷ 32 ∷ []

-- a number that there may not be is held as one more than it, and as 0 where there is none; that prints `-`
abbrev pub or_dash : ℕ → List ℕ
or_dash zero = 45 ∷ []
or_dash (suc n) = digits n

-- the term at P, which is none where P is 0
unfoldable pub term_shown : ℕ → ℕ
term_shown zero = 0
term_shown (suc p) = suc (term (suc p))

abbrev pub first_line : ℕ → ℕ → ℕ → ℕ → List ℕ
first_line k p t c = (order_word ++ digits k) ++ ((position_word ++ digits p) ++ ((term_word ++ or_dash t) ++ ((column_word ++ or_dash c) ++ 10 ∷ [])))

-- ---- the line of the columns, and the cells below it: the highest column first, three bytes each

-- the text of each number below n, the highest first
unfoldable pub down : (ℕ → List ℕ) → ℕ → List ℕ
down f zero = []
down f (suc n) = f n ++ down f n

-- a column's number, with `>` before it where it is the one being scanned
abbrev pub column_text : ℕ → ℕ → List ℕ
column_text c n = aligned 3 (cond (eqb (n + 1) c) (62 ∷ digits n) (digits n))

-- `|    slot   weight  `
abbrev pub columns_word : List ℕ
columns_word = 124 ∷ 32 ∷ 32 ∷ 32 ∷ 32 ∷ 115 ∷ 108 ∷ 111 ∷ 116 ∷ 32 ∷ 32 ∷ 32 ∷ 119 ∷ 101 ∷ 105 ∷ 103 ∷ 104 ∷ 116 ∷ 32 ∷ 32 ∷ []

abbrev pub columns_line : ℕ → ℕ → List ℕ
columns_line k c = columns_word ++ (down (column_text c) k ++ 10 ∷ [])

-- `1` where the weight has the bit, else `.`
abbrev pub cell_text : ℕ → List ℕ
cell_text b = 32 ∷ 32 ∷ cond (eqb b 1) 49 46 ∷ []

-- ---- a row's line

-- `   visit` for the slot that sends, `   to visit` for one still to visit, and nothing for any other
abbrev pub visit_word : List ℕ
visit_word = 32 ∷ 32 ∷ 32 ∷ 118 ∷ 105 ∷ 115 ∷ 105 ∷ 116 ∷ []

abbrev pub to_visit_word : List ℕ
to_visit_word = 32 ∷ 32 ∷ 32 ∷ 116 ∷ 111 ∷ 32 ∷ 118 ∷ 105 ∷ 115 ∷ 105 ∷ 116 ∷ []

abbrev pub mark : ℕ → (ℕ → Bool) → ℕ → List ℕ
mark sends to_visit i = cond (eqb i sends) visit_word (cond (to_visit i) to_visit_word [])

-- slot i of weight w, its cells and its mark
abbrev pub row_start : ℕ → ℕ → List ℕ
row_start i w = 124 ∷ (aligned 8 (digits i) ++ (aligned 9 (digits w) ++ 32 ∷ 32 ∷ []))

abbrev pub row_line : ℕ → ℕ → List ℕ → List ℕ → List ℕ
row_line i w cells m = row_start i w ++ (cells ++ (m ++ 10 ∷ []))

abbrev pub cells_of : ℕ → ℕ → List ℕ
cells_of k w = down (λ c. cell_text (bit c w)) k

-- the lines of a list of slots
unfoldable pub row_lines : (ℕ → List ℕ) → List ℕ → List ℕ
row_lines f [] = []
row_lines f (i ∷ is) = f i ++ row_lines f is

-- ---- the page

-- of an order, P, the column being scanned, the rows in joining order with their weights, the slot that sends and those still to visit
abbrev pub page_text : ℕ → ℕ → ℕ → List ℕ → (ℕ → ℕ) → ℕ → (ℕ → Bool) → List ℕ
page_text k p c rows f sends to_visit =
    (first_line k p (term_shown p) c ++ columns_line k c) ++ row_lines (λ i. row_line i (f i) (cells_of k (f i)) (mark sends to_visit i)) rows

-- the column being scanned: "the column is k minus the term" where a term was taken, else the noted one where slots were still to visit, else none
unfoldable pub scanned : State → Chosen → ℕ
scanned s x =
    cond (eqb x.terms 0) (cond (is_empty s.scan.to_visit) 0 (suc s.scan.column))
    (suc (column_at x.state.order x.state.scan.position))

-- the page of the choice that Next makes
abbrev pub page_by : State → Option Chosen → List ℕ
page_by s none = []
page_by s (some x) =
    page_text x.state.order x.state.scan.position (scanned s x) s.rows (weights s.channels) x.slot
    (λ i. eqb (occurs i x.state.scan.to_visit) 1)

-- no page where Next is refused: of a parked state, without rows, or on a memory that is not sound
unfoldable pub page_of : State → List ℕ
page_of s = cond (s.parked || is_empty s.rows) [] (page_by s (choose_by s.scan.visit s))

unfoldable pub page_on : List ℕ → List ℕ
page_on b = cond (sound_bytes b) (page_of (state_of b)) []

-- the page under a line: of Next, and of no other
abbrev pub page_under : List ℕ → Option Call → List ℕ
page_under b none = []
page_under b (some (to_open w)) = []
page_under b (some (to_put i t n r)) = []
page_under b (some (to_close i t)) = []
page_under b (some to_next) = page_on b
page_under b (some (to_start e)) = []
page_under b (some (to_ask i t)) = []
page_under b (some to_fullest) = []

-- room for any page: two lines and one for each slot, none above this width
abbrev pub line_room : ℕ
line_room = 80 + 3 * columns

abbrev pub page_room : ℕ
page_room = (slots + 2) * line_room
