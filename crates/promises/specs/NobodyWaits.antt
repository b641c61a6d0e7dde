-- Nobody waits two rounds (02 §13): "a channel with a record waiting before and at one round's start, and after every call until the next start, is visited at
-- least once between the two, whatever calls others make and however often the order rises".
use Rattle.std.specs.Prelude.{ℕ, ◌≡◌, Bool, true, false, List, [], ◌∷◌}
use Rattle.std.proofs.Math.Option.{some}
use Rattle.rules.specs.State.{State, held}
use Rattle.promises.specs.Histories.{restarts}
use Rattle.promises.specs.Moments.{Moment, a_term, an_end, a_visit, a_send, a_call}
use Rattle.promises.specs.Rounds.{Waiting, MomentsRound}

-- the moments are one whole round of edition 2, and slot i has a record waiting at its start. Nothing is asked of the order, of the others, or of the time it
-- takes; nor that the slot waits on, since until its visit no call takes its records away but a Start.
pub record HeldRound (i : ℕ) (s : State) (ms : List Moment) : Type 0 where
  pub held-there : held s ≡ true
  pub waits : Waiting i s
  pub round : MomentsRound s ms

-- the open visit, if there is one, is another slot's
abbrev pub OutOfVisit : ℕ → State → Type 0
OutOfVisit i s = s.scan.visit ≡ some i → ⊥

-- "No round runs across a start": none of the moments is a Start that is taken
abbrev pub is_restart : Moment → Bool
is_restart a_term = false
is_restart an_end = false
is_restart a_visit = false
is_restart a_send = false
is_restart (a_call c) = restarts c

unfoldable pub NoRestart : List Moment → Type 0
NoRestart [] = Unit {0}
NoRestart (m ∷ ms) = (is_restart m ≡ false) × NoRestart ms
