-- Rounds over acts: "No round runs across a start or a reading." (02 §6)
use Rattle.std.specs.Prelude.{◌≡◌, List, [], ◌∷◌, ◌++◌, ℕ}
use Rattle.rules.specs.State.{State}
use Rattle.memory.specs.Reading.{state_of}
use Rattle.promises.specs.Moments.{Moment, moved_by}
use Rattle.promises.specs.Rounds.{MomentsRound}
use Rattle.parking.specs.Acts.{Act, step_by, NoBeginning, moments_by}

-- the acts on b have the moments xs, then ms, then ys; ms are one whole round, and no history begins at any of the acts
pub record RoundBy (b : List ℕ) (acts : List Act) (xs ms ys : List Moment) : Type 0 where
  pub none : NoBeginning acts
  pub part : moments_by b acts ≡ xs ++ (ms ++ ys)
  pub round : MomentsRound (moved_by (state_of b) xs) ms

-- at the start and after every act
unfoldable pub ThroughoutBy : (State → Type 0) → List ℕ → List Act → Type 0
ThroughoutBy P b [] = P (state_of b)
ThroughoutBy P b (a ∷ acts) = P (state_of b) × ThroughoutBy P (step_by b a) acts
