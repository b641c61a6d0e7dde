-- The visits of a round in their order, as slots and as row numbers (02 §9): what a round sheet lists.
use Rattle.std.specs.Prelude.{ℕ, suc, ◌≡◌, cond, List, [], ◌∷◌, ◌++◌, map, eqb, get_or}
use Rattle.answers.specs.Answer.{Answer}
use Rattle.spread.specs.Round.{round_of}
use Rattle.rules.specs.State.{State, weights}
use Rattle.rules.specs.Calls.{Call, Fields, of_sent}
use Rattle.promises.specs.Moments.{Moment, a_term, an_end, a_visit, a_send, a_call, moved}

-- ---- who is visited

-- at a moment, the slot whose visit it starts, if it starts one; over a list of moments, in order
abbrev pub first_alone : List ℕ → List ℕ
first_alone [] = []
first_alone (j ∷ rest) = j ∷ []

abbrev pub started_at : State → Moment → List ℕ
started_at s a_term = []
started_at s an_end = []
started_at s a_visit = first_alone s.scan.to_visit
started_at s a_send = []
started_at s (a_call c) = []

unfoldable pub visited_by : State → List Moment → List ℕ
visited_by s [] = []
visited_by s (m ∷ ms) = started_at s m ++ visited_by (moved s m) ms

-- by a call's answer, its slot where the start mark is 1 (over a list of calls: `along visited`)
abbrev pub visited : Call → Answer Fields → List ℕ
visited c = of_sent [] (λ a. cond (eqb a.started 1) (a.slot ∷ []) [])

-- ---- the sheet

-- "with every row always waiting": the rows stay these, so none leaves and none joins
abbrev pub RowsAre : List ℕ → State → Type 0
RowsAre rs s = s.rows ≡ rs

-- "weights in joining order": those of a state's rows. The sheet is `round_of` of them.
abbrev pub row_weights : State → List ℕ
row_weights s = map (weights s.channels) s.rows

-- a row number as a slot, and a slot as a row number: "rows and places counted from 0"
abbrev pub slots_of : List ℕ → List ℕ → List ℕ
slots_of rs ns = map (λ (r : ℕ). get_or rs r 0) ns

unfoldable pub row_of : List ℕ → ℕ → ℕ
row_of [] i = 0
row_of (r ∷ rs) i = let later = row_of rs i in cond (eqb i r) 0 (suc later)

abbrev pub row_numbers : List ℕ → List ℕ → List ℕ
row_numbers rs is = map (row_of rs) is

-- the slots vs, each as a slot and as the number of its row, are the visits on the sheet of the rows of s, in its order
pub record OnSheet (s : State) (vs : List ℕ) : Type 0 where
  pub slots_are : vs ≡ slots_of s.rows (round_of (row_weights s))
  pub numbers_are : row_numbers s.rows vs ≡ round_of (row_weights s)
