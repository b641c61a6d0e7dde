-- Demand 3 and round sheets over acts: "No round runs across a start or a reading." A round is a part of the moments of acts of which none begins a history, so
-- those of the calls that they are seen as; and of these it is promised, in both editions. So is, in edition 2, that nobody waits two rounds (02 §13).
use Prim.Native.Nat.{ℕ, ◌+◌, ◌*◌, ◌≤◌, ◌^◌}
use mathlib.Core.Path.{◌≡◌, refl, sym, ap, ◌∙◌, subst}
use mathlib.Core.Bool.{Bool, true, false}
use mathlib.Core.List.{List, [], ◌∷◌, ◌++◌}
use Rattle.spread.specs.Limits.{columns}
use Rattle.spread.specs.Distance.{Near}
use Rattle.rules.specs.Numbers.{granted, rest_limit}
use Rattle.rules.specs.State.{State, at, held, with_mark}
use Rattle.rules.specs.Calls.{AllInRange}
use Rattle.memory.specs.Reading.{state_of}
use Rattle.memory.specs.Memory.{sound_bytes}
use Rattle.promises.specs.Moments.{Moment, moved_by, visits_at, cost_at, moments_total, sent_at}
use Rattle.promises.specs.Rounds.{Starts, Waiting, MomentsThroughout, Steady, MomentsWithin, MomentsRound, per_position}
use Rattle.promises.specs.Sheets.{visited, visited_by, RowsAre, OnSheet}
use Rattle.uplink.specs.Lent.{step_on, ThroughoutOn}
use Rattle.uplink.proofs.Runs.{step-sound-on, run-state}
use Rattle.uplink.proofs.Observed.{along-on}
use Rattle.uplink.proofs.RoundDemands.{moments_lead-on, part-visited-on, part-cost-on, part-near-on, part_sheet_on, sheet_answered-on, waits-at_moments_on}
use Rattle.parking.specs.Acts.{Act, to_call, to_park, to_unpark, run_by, along_by, ActsInRange, NoBeginning, parked_on, calls_in, calls_by, moments_by}
use Rattle.uplink.proofs.NobodyWaits.{nobody-waits-on, held-ends-on}
use Rattle.parking.specs.Rounds.{RoundBy, ThroughoutBy}
use Rattle.parking.proofs.ActLaws.{marked, by-parking, read_stays, no_beginning}
use Rattle.parking.proofs.AsCalls.{as_calls, parked_acts, marked_acts, call-unparked}

module _ (b : List ℕ) (acts : List Act) (e : sound_bytes b ≡ true) (f : ActsInRange acts) where
  in_range : NoBeginning acts → AllInRange (calls_by b acts)
  in_range n = (as_calls b acts e f n).in_range

  -- the moments lead to the state that the acts leave, but for the mark
  pub moments_lead-by : NoBeginning acts → (m : Bool) × (state_of (run_by b acts) ≡ with_mark (moved_by (state_of b) (moments_by b acts)) m)
  moments_lead-by n =
      let C = as_calls b acts e f n in
      let there = moments_lead-on b (calls_by b acts) e C.in_range ∙ run-state b (calls_by b acts) C.in_range e in
      (C.mark, C.state ∙ ap (λ (s : State). with_mark s C.mark) (sym there))

  module _ (xs ms ys : List Moment) where
    abbrev from : State
    from = moved_by (state_of b) xs

    -- "That channel is visited exactly as often as its weight w"
    pub visited-by : (i : ℕ) → RoundBy b acts xs ms ys → Steady from.order i from ms → moments_total (visits_at i) from ms ≡ (at from.channels i).weight
    visited-by i R st = part-visited-on b (calls_by b acts) e (in_range R.none) xs ms ys R.part i R.round st

    -- "and sends at least 1,024w - 1,023 and at most 1,024w + 1,023 bytes", of cost
    pub cost-by : (i : ℕ) → RoundBy b acts xs ms ys → Steady from.order i from ms
        → (granted * (at from.channels i).weight ≤ moments_total (cost_at i) from ms + rest_limit)
        × (moments_total (cost_at i) from ms ≤ granted * (at from.channels i).weight + rest_limit)
    cost-by i R st = part-cost-on b (calls_by b acts) e (in_range R.none) xs ms ys R.part i R.round st

    -- "is visited at least once between the two, whatever calls others make and however often the order rises" (02 §13): in edition 2
    pub nobody-waits-by : (i : ℕ) → RoundBy b acts xs ms ys → held from ≡ true → Waiting i from → 1 ≤ moments_total (visits_at i) from ms
    nobody-waits-by i R g w =
        nobody-waits-on b (calls_by b acts) e (in_range R.none) xs ms ys R.part i (as_calls b acts e f R.none).no_start
        (record { held-there = g; waits = w; round = R.round })

    -- and the next start comes
    pub held-ends-by : NoBeginning acts → moments_by b acts ≡ xs ++ (ms ++ ys) → held from ≡ true → MomentsWithin 0 from ms
        → moments_total sent_at from ms ≤ per_position * 2 ^ columns
    held-ends-by n part = held-ends-on b (calls_by b acts) e (in_range n) xs ms ys part (as_calls b acts e f n).no_start

    -- the bound on two channels, at every moment of a round, ended or under way
    pub near_by : (i j : ℕ) → NoBeginning acts → moments_by b acts ≡ xs ++ (ms ++ ys) → Starts from → MomentsWithin 0 from ms → Steady from.order i from ms
        → Steady from.order j from ms
        → Near from.order (at from.channels i).weight (moments_total (visits_at i) from ms) (at from.channels j).weight (moments_total (visits_at j) from ms)
    near_by i j n part = part-near-on b (calls_by b acts) e (in_range n) xs ms ys part i j

    -- "the visits of one round with every row always waiting" (02 §9) are those of the sheet, in its order
    pub sheet_by : RoundBy b acts xs ms ys → MomentsThroughout (RowsAre from.rows) from ms → OnSheet from (visited_by from ms)
    sheet_by R st = part_sheet_on b (calls_by b acts) e (in_range R.none) xs ms ys R.part R.round st

-- ---- "a channel that has a record waiting at the start and after every call", here after every act

module _ (P : State → Type 0) where
  first_holds : (b : List ℕ) (acts : List Act) → ThroughoutBy P b acts → P (state_of b)
  unfolding ThroughoutBy
  first_holds b [] w = w
  first_holds b (a ∷ acts) w = w.0

  -- where no call is made, only the state at first is asked for
  none_made : (b d : List ℕ) (acts : List Act) → calls_by d acts ≡ [] → P (state_of b) → ThroughoutOn P b (calls_by d acts)
  unfolding ThroughoutOn
  none_made b d acts z p = rw z p

  unparked_throughout : (b : List ℕ) (acts : List Act) → sound_bytes b ≡ true → parked_on b ≡ false → ActsInRange acts → NoBeginning acts → ThroughoutBy P b acts
      → ThroughoutOn P b (calls_by b acts)
  unfolding ThroughoutBy ThroughoutOn calls_by
  unparked_throughout b [] e m f n w = w
  unparked_throughout b (to_call c ∷ acts) e m f n w =
      let later = unparked_throughout (step_on b c) acts (step-sound-on b c f.0 e) (call-unparked b c f.0 e m) f.1 (no_beginning (to_call c) acts n).1 w.1 in
      subst (λ (t : Bool). ThroughoutOn P b (calls_in t (to_call c) ++ calls_by (step_on b c) acts)) (sym m) (w.0, later)
  unparked_throughout b (to_park v buffer ∷ acts) e m f n w =
      let more = (no_beginning (to_park v buffer) acts n).1 in
      by-parking v buffer b (λ x. ThroughoutBy P x.state acts → ThroughoutOn P b (calls_by x.state acts))
      (λ r. unparked_throughout b acts e m f.1 more) (λ z p l y. none_made b (marked b) acts (marked_acts b acts e more).none w.0) w.1
  unparked_throughout b (to_unpark image ∷ acts) e m f n w =
      let (q, more) = no_beginning (to_unpark image) acts n in
      let stays = read_stays image b q in
      subst (λ (d : List ℕ). ThroughoutOn P b (calls_by d acts)) (sym stays)
      (unparked_throughout b acts e m f.1 more (subst (λ (d : List ℕ). ThroughoutBy P d acts) stays w.1))

  pub throughout_by : (b : List ℕ) (acts : List Act) → sound_bytes b ≡ true → ActsInRange acts → NoBeginning acts → ThroughoutBy P b acts
      → ThroughoutOn P b (calls_by b acts)
  throughout_by b acts e f n w = go (parked_on b) refl
    where
      go : (m : Bool) → parked_on b ≡ m → ThroughoutOn P b (calls_by b acts)
      go true m = none_made b b acts (parked_acts b acts e m n).none (first_holds b acts w)
      go false m = unparked_throughout b acts e m f n w

-- "has a record waiting at the start and after every call": then at every moment
pub waits-at_moments_by : (i : ℕ) (b : List ℕ) (acts : List Act) → sound_bytes b ≡ true → ActsInRange acts → NoBeginning acts → ThroughoutBy (Waiting i) b acts
    → MomentsThroughout (Waiting i) (state_of b) (moments_by b acts)
waits-at_moments_by i b acts e f n w =
    waits-at_moments_on b (calls_by b acts) e (as_calls b acts e f n).in_range i (throughout_by (Waiting i) b acts e f n w)

-- the slots that the answers name with the start mark, where the moments of the acts are one round and the rows stay after every act
pub sheet_answered-by : (b : List ℕ) (acts : List Act) → sound_bytes b ≡ true → ActsInRange acts → NoBeginning acts → MomentsRound (state_of b) (moments_by b acts)
    → ThroughoutBy (RowsAre (state_of b).rows) b acts → OnSheet (state_of b) (along_by visited b acts)
sheet_answered-by b acts e f n R st =
    let C = as_calls b acts e f n in
    let cs = calls_by b acts in
    subst (OnSheet (state_of b)) (along-on visited b cs C.in_range e ∙ sym (C.seen visited (λ c z. refl)))
    (sheet_answered-on b cs e C.in_range R (throughout_by (RowsAre (state_of b).rows) b acts e f n st))
