-- The moments of calls: the single steps that a call is made of, and what is counted at each. They carry no slot: the state says which it is.
use Rattle.std.specs.Prelude.{ℕ, zero, suc, ◌+◌, Bool, true, false, cond, ◌||◌, List, [], ◌∷◌, ◌++◌, eqb}
use Rattle.std.proofs.Math.Option.{Option, none, some}
use Rattle.lists.specs.Tests.{is_empty}
use Rattle.rules.specs.State.{Record, cost, State, at, round_over}
use Rattle.rules.specs.Next.{term_taken, round_ended, ending_round, visit_started, terms_most, paying, settled}
use Rattle.rules.specs.Calls.{Call, of_next, step}

-- a term taken, a round ended, a visit started, a record sent and its visit settled; and, as one moment, any call but Next
pub data Moment : Type 0 where
  a_term an_end a_visit a_send : Moment
  a_call : Call → Moment

-- ---- the state after a moment

abbrev pub first_visited : List ℕ → State → State
first_visited [] s = s
first_visited (i ∷ rest) s = visit_started s i rest

abbrev pub head_sent : List Record → State → ℕ → State
head_sent [] s i = s
head_sent (h ∷ rest) s i = settled rest s i (paying h rest (at s.channels i))

abbrev pub visit_sends : Option ℕ → State → State
visit_sends none s = s
visit_sends (some i) s = head_sent (at s.channels i).waiting s i

unfoldable pub moved : State → Moment → State
moved s a_term = term_taken s
moved s an_end = round_ended s
moved s a_visit = first_visited s.scan.to_visit s
moved s a_send = visit_sends s.scan.visit s
moved s (a_call c) = step s c

unfoldable pub moved_by : State → List Moment → State
moved_by s [] = s
moved_by s (m ∷ ms) = moved_by (moved s m) ms

-- ---- the moments of a call

-- "a round's end (term 2^k - 1 taken, no visit open, none left to visit)" is a moment of its own, of the call that comes to it
abbrev pub end_of : State → List Moment
end_of s = cond (round_over s) (an_end ∷ []) []

-- "A call goes on taking terms, through a round's end if need be, until it finds a row", f at the most; then the first visit
unfoldable pub scan_moments : ℕ → State → List Moment
scan_moments zero s = a_visit ∷ []
scan_moments (suc f) s =
    let later = scan_moments f (ending_round (term_taken s)) in
    cond (is_empty s.scan.to_visit) (a_term ∷ end_of (term_taken s) ++ later) (a_visit ∷ [])

-- none, if a visit is open
abbrev pub choose_moments : Option ℕ → State → List Moment
choose_moments none s = scan_moments (terms_most s) s
choose_moments (some v) s = []

-- and after the send the round's end, if the settled visit was its last
abbrev pub next_moments : State → List Moment
next_moments s =
    let choosing = choose_moments s.scan.visit s in
    choosing ++ a_send ∷ end_of (moved (moved_by s choosing) a_send)

abbrev pub is_next : Call → Bool
is_next = of_next false true

-- (a Next of a parked state, or without rows, is refused and has none)
unfoldable pub moments_of : State → Call → List Moment
moments_of s c = cond (is_next c) (cond (s.parked || is_empty s.rows) [] (next_moments s)) (a_call c ∷ [])

unfoldable pub moments_along : State → List Call → List Moment
moments_along s [] = []
moments_along s (c ∷ cs) = moments_of s c ++ moments_along (step s c) cs

-- ---- what a moment counts: a record sent; a visit of slot i started; the cost of what slot i sends

abbrev pub sent_at : State → Moment → ℕ
sent_at s a_term = 0
sent_at s an_end = 0
sent_at s a_visit = 0
sent_at s a_send = 1
sent_at s (a_call c) = 0

abbrev pub is_first : ℕ → List ℕ → ℕ
is_first i [] = 0
is_first i (j ∷ rest) = cond (eqb i j) 1 0

abbrev pub visits_at : ℕ → State → Moment → ℕ
visits_at i s a_term = 0
visits_at i s an_end = 0
visits_at i s a_visit = is_first i s.scan.to_visit
visits_at i s a_send = 0
visits_at i s (a_call c) = 0

abbrev pub head_cost : List Record → ℕ
head_cost [] = 0
head_cost (h ∷ rest) = cost h

abbrev pub visit_cost : ℕ → Option ℕ → State → ℕ
visit_cost i none s = 0
visit_cost i (some j) s = cond (eqb i j) (head_cost (at s.channels j).waiting) 0

abbrev pub cost_at : ℕ → State → Moment → ℕ
cost_at i s a_term = 0
cost_at i s an_end = 0
cost_at i s a_visit = 0
cost_at i s a_send = visit_cost i s.scan.visit s
cost_at i s (a_call c) = 0

-- and over a list of moments
unfoldable pub moments_total : (State → Moment → ℕ) → State → List Moment → ℕ
moments_total f s [] = 0
moments_total f s (m ∷ ms) = f s m + moments_total f (moved s m) ms
