-- Demand 3 and round sheets, each promise once for both editions: over any part of the moments of calls, wherever in a call a round begins and ends; and over
-- calls by what their answers say, where their moments are a round. Beside it, of edition 2, that nobody waits two rounds (02 §13). Then, in document 01's own
-- wording, rounds that begin and end between calls and a channel that waits after every call. That is edition 1's, and its edition is asked for there: in edition 2
-- a round can start inside a call. Last, sheets between calls.
use Prim.Native.Nat.{ℕ, ◌+◌, ◌*◌, ◌^◌, ◌≤◌, ◌<◌}
use mathlib.Core.Path.{◌≡◌, subst}
use mathlib.Core.Bool.{true, false}
use mathlib.Core.List.{List, ◌++◌}
use mathlib.Core.Logic.{◌⊎◌, inl, inr}
use native.Mathlib.Omega.{arith}
use Rattle.spread.specs.Limits.{columns}
use Rattle.spread.specs.Distance.{Near}
use Rattle.rules.specs.Numbers.{granted, rest_limit}
use Rattle.rules.specs.State.{State, fresh, at, held}
use Rattle.rules.specs.Calls.{Call, run, AllInRange}
use Rattle.rules.specs.Facts.{Edition, after_grant, SoundTo, Sound}
use Rattle.rules.proofs.Choosing.{rows_order, sound-wider}
use Rattle.rules.proofs.Kept.{reached-sound}
use Rattle.promises.specs.Histories.{along, NoStart}
use Rattle.promises.specs.Moments.{Moment, moved_by, moments_along, sent_at, visits_at, cost_at, moments_total}
use Rattle.promises.specs.Rounds.{Starts, Waiting, Waits, MomentsBefore, MomentsThroughout, Steady, MomentsWithin, MomentsRound, per_position, one_sent, visits_of, cost_of, total, Throughout, WithinRound, Round, OrderUpTo}
use Rattle.promises.specs.Sheets.{visited_by, visited, RowsAre, OnSheet}
use Rattle.promises.specs.NobodyWaits.{HeldRound, OutOfVisit, NoRestart}
use Rattle.promises.proofs.Lawful.{Lawful, moved-by-kept, lawful-first, lawful-rest}
use Rattle.promises.proofs.Made.{moments-along}
use Rattle.promises.proofs.Counts.{sends-same, visits-same, costs_same, calls-total}
use Rattle.promises.proofs.Rounds.{moments_visited, moments_near, moments_cost}
use Rattle.promises.proofs.Ends.{moments_end}
use Rattle.promises.proofs.EveryMoment.{calls_wait, before-map, throughout_at}
use Rattle.promises.proofs.BetweenCalls.{along-round, calls-order, calls-within, calls-round, waits-order, waits_steady}
use Rattle.promises.proofs.Reached.{calls_or_round, moments_reached}
use Rattle.promises.proofs.RowsStay.{calls-rows, RowsOwn, calls-own}
use Rattle.promises.proofs.VisitsAnswered.{calls-visited}
use Rattle.promises.proofs.Sheets.{visits_sheet}
use Rattle.promises.proofs.OwnOrder.{own-order, start-own}
use Rattle.promises.proofs.NoRestart.{none_first, none_rest, calls-none, columns-most, waits_no_start}
use Rattle.promises.proofs.NobodyWaits.{nobody-waits}
use Rattle.promises.proofs.HeldEnds.{held-ends, visited_in_time}
use Rattle.promises.proofs.TwoRounds.{visited_in_two}

-- an order that is k before every moment is up to k
order-up_to : (k : ℕ) (ms : List Moment) (s : State) → MomentsBefore (λ r. r.order ≡ k) s ms → MomentsBefore (OrderUpTo k) s ms
order-up_to k ms s o = before-map (λ r q. record { at_most = omega arith; unheld = λ g. q }) ms s o

-- ---- over a part of the moments of calls, in both editions

-- the calls cs, made on a sound state s, have the moments xs, then ms, then ys; ms begins at the state `from`
module _ (s : State) (cs : List Call) (S : Sound s) (f : AllInRange cs) (xs ms ys : List Moment) (split : moments_along s cs ≡ xs ++ (ms ++ ys)) where
  abbrev pub from : State
  from = moved_by s xs

  whole : Lawful s (xs ++ (ms ++ ys))
  whole = subst (Lawful s) split (moments-along cs f S).lawful

  part : Lawful from ms
  part = lawful-first ms ys from (lawful-rest xs (ms ++ ys) s whole)

  sound-from : SoundTo after_grant from
  sound-from = moved-by-kept xs (lawful-first xs (ms ++ ys) s whole) (sound-wider S)

  -- "That channel is visited exactly as often as its weight w"
  pub part-visited : (i : ℕ) → MomentsRound from ms → Steady from.order i from ms → moments_total (visits_at i) from ms ≡ (at from.channels i).weight
  part-visited i R st = moments_visited i from ms sound-from part R st

  -- "and sends at least 1,024w - 1,023 and at most 1,024w + 1,023 bytes": "Demand 3's bytes read as cost." (02 §1)
  pub part-cost : (i : ℕ) → MomentsRound from ms → Steady from.order i from ms
      → (granted * (at from.channels i).weight ≤ moments_total (cost_at i) from ms + rest_limit)
      × (moments_total (cost_at i) from ms ≤ granted * (at from.channels i).weight + rest_limit)
  part-cost i R st = moments_cost i from ms sound-from part R st

  -- "twice the distance between w1 times the second's visits and w2 times the first's is at most the larger weight times the larger of 2 and the order":
  -- for all moments within the round, so at every moment, ended or under way
  pub part-near : (i j : ℕ) → Starts from → MomentsWithin 0 from ms → Steady from.order i from ms → Steady from.order j from ms
      → Near from.order (at from.channels i).weight (moments_total (visits_at i) from ms) (at from.channels j).weight (moments_total (visits_at j) from ms)
  part-near i j B inside st₁ st₂ = moments_near i j from ms sound-from part B inside st₁ st₂

  -- as long as no start is reached after a send, at most 64 times 2,047 records for each of 2^k positions are sent: so a round ends
  pub part-ends : (k : ℕ) → MomentsBefore (λ r. r.order ≡ k) from ms → MomentsWithin 0 from ms → moments_total sent_at from ms ≤ per_position * 2 ^ k
  part-ends k o inside = moments_end k from ms sound-from part (order-up_to k ms from o) inside

  -- "the next start is the first one after at least one send": moments from a start that send more than a round can hold begin with one whole round. (The
  -- order is asked for as long as they are within it.)
  pub part-reached : (k : ℕ) → (MomentsWithin 0 from ms → MomentsBefore (λ r. r.order ≡ k) from ms) → Starts from
      → per_position * 2 ^ k < moments_total sent_at from ms → (first : List Moment) × (others : List Moment) × (ms ≡ first ++ others) × MomentsRound from first
  part-reached k o B l = moments_reached k from ms sound-from part (λ w. order-up_to k ms from (o w)) B l

  -- ---- edition 2, where no Start is taken

  on : NoStart cs → NoRestart ms
  on n = none_first ms ys (none_rest xs (ms ++ ys) (subst NoRestart split (calls-none cs s n)))

  -- "is visited at least once between the two, whatever calls others make and however often the order rises": a channel that waits at the round's start
  pub part-nobody-waits : (i : ℕ) → NoStart cs → HeldRound i from ms → 1 ≤ moments_total (visits_at i) from ms
  part-nobody-waits i n H = nobody-waits i from ms sound-from part (on n) H

  -- "with a record waiting before and at one round's start, and after every call until the next start": then no Start is taken, and it waits at the round's start
  pub part-waiting-visited : (i : ℕ) → Throughout (Waiting i) s cs → held from ≡ true → MomentsRound from ms → 1 ≤ moments_total (visits_at i) from ms
  part-waiting-visited i w g R =
      part-nobody-waits i (waits_no_start i cs s w)
      (record {
        held-there = g;
        waits = throughout_at (Waiting i) xs (ms ++ ys) s (subst (MomentsThroughout (Waiting i) s) split (calls_wait i cs f S w));
        round = R;
      })

  -- the next start comes, whatever the order rises to
  pub part-held-ends : NoStart cs → held from ≡ true → MomentsWithin 0 from ms → moments_total sent_at from ms ≤ per_position * 2 ^ columns
  part-held-ends n g inside = held-ends columns from ms sound-from part (on n) g (columns-most ms from part sound-from) inside

  -- so the channel that waits at a start is visited before so many records have been sent
  pub part_in_time : (i : ℕ) → NoStart cs → held from ≡ true → Starts from → Waiting i from → per_position * 2 ^ columns < moments_total sent_at from ms
      → 1 ≤ moments_total (visits_at i) from ms
  part_in_time i n g B w l = visited_in_time columns from ms sound-from part (on n) g (columns-most ms from part sound-from) i B w l

  -- and one that begins to wait in the middle of a round, before two rounds' records have been sent
  pub part_in-two : (i : ℕ) → NoStart cs → held from ≡ true → Waiting i from → OutOfVisit i from → 2 * (per_position * 2 ^ columns) < moments_total sent_at from ms
      → 1 ≤ moments_total (visits_at i) from ms
  part_in-two i n g w out l = visited_in_two columns i from ms sound-from part (on n) g (columns-most ms from part sound-from) w out l

  -- "the visits of one round with every row always waiting" (02 §9): in a round in which the rows stay they are those of the sheet, in its order
  pub part_sheet : MomentsRound from ms → MomentsThroughout (RowsAre from.rows) from ms → OnSheet from (visited_by from ms)
  part_sheet R st = visits_sheet from ms sound-from part R st

-- ---- over calls by what their answers say, in both editions

module _ (s : State) (cs : List Call) (S : Sound s) (f : AllInRange cs) where
  pub visits-answered : (i : ℕ) → MomentsRound s (moments_along s cs) → Steady s.order i s (moments_along s cs)
      → total (visits_of i) s cs ≡ (at s.channels i).weight
  visits-answered i R st =
      rw (← calls-total (visits-same i) cs s f S) (moments_visited i s (moments_along s cs) (sound-wider S) (moments-along cs f S).lawful R st)

  pub cost-answered : (i : ℕ) → MomentsRound s (moments_along s cs) → Steady s.order i s (moments_along s cs)
      → (granted * (at s.channels i).weight ≤ total (cost_of i) s cs + rest_limit) × (total (cost_of i) s cs ≤ granted * (at s.channels i).weight + rest_limit)
  cost-answered i R st =
      rw (← calls-total (costs_same i) cs s f S) (moments_cost i s (moments_along s cs) (sound-wider S) (moments-along cs f S).lawful R st)

  -- "after every call": for every list of calls whose moments are within the round
  pub near-answered : (i j : ℕ) → Starts s → MomentsWithin 0 s (moments_along s cs) → Steady s.order i s (moments_along s cs)
      → Steady s.order j s (moments_along s cs)
      → Near s.order (at s.channels i).weight (total (visits_of i) s cs) (at s.channels j).weight (total (visits_of j) s cs)
  near-answered i j B inside st₁ st₂ =
      rw (← calls-total (visits-same i) cs s f S, ← calls-total (visits-same j) cs s f S)
      (moments_near i j s (moments_along s cs) (sound-wider S) (moments-along cs f S).lawful B inside st₁ st₂)

  pub sends-answered : (k : ℕ) → MomentsBefore (λ r. r.order ≡ k) s (moments_along s cs) → MomentsWithin 0 s (moments_along s cs)
      → total one_sent s cs ≤ per_position * 2 ^ k
  sends-answered k o inside =
      rw (← calls-total sends-same cs s f S)
      (moments_end k s (moments_along s cs) (sound-wider S) (moments-along cs f S).lawful (order-up_to k (moments_along s cs) s o) inside)

  -- 02 §13
  pub nobody-waits-answered : (i : ℕ) → NoStart cs → HeldRound i s (moments_along s cs) → 1 ≤ total (visits_of i) s cs
  nobody-waits-answered i n H =
      rw (← calls-total (visits-same i) cs s f S)
      (nobody-waits i s (moments_along s cs) (sound-wider S) (moments-along cs f S).lawful (calls-none cs s n) H)

  pub in_time_answered : (i : ℕ) → NoStart cs → held s ≡ true → Starts s → Waiting i s → per_position * 2 ^ columns < total one_sent s cs
      → 1 ≤ total (visits_of i) s cs
  in_time_answered i n g B w l =
      let law : Lawful s (moments_along s cs) = (moments-along cs f S).lawful in
      rw (← calls-total (visits-same i) cs s f S)
      (visited_in_time columns s (moments_along s cs) (sound-wider S) law (calls-none cs s n) g (columns-most (moments_along s cs) s law (sound-wider S)) i B w
      (rw (calls-total sends-same cs s f S) l))

  pub in_two-answered : (i : ℕ) → NoStart cs → held s ≡ true → Waiting i s → OutOfVisit i s → 2 * (per_position * 2 ^ columns) < total one_sent s cs
      → 1 ≤ total (visits_of i) s cs
  in_two-answered i n g w out l =
      let law : Lawful s (moments_along s cs) = (moments-along cs f S).lawful in
      rw (← calls-total (visits-same i) cs s f S)
      (visited_in_two columns i s (moments_along s cs) (sound-wider S) law (calls-none cs s n) g (columns-most (moments_along s cs) s law (sound-wider S)) w out
      (rw (calls-total sends-same cs s f S) l))

  -- the slots that the answers name with the start mark, in order; the rows are asked for at the start and after every call
  pub sheet_answered : MomentsRound s (moments_along s cs) → Throughout (RowsAre s.rows) s cs → OnSheet s (along visited s cs)
  sheet_answered R st =
      subst (OnSheet s) (calls-visited cs s f S)
      (visits_sheet s (moments_along s cs) (sound-wider S) (moments-along cs f S).lawful R (calls-rows s.rows cs f S st))

  -- a channel that waits after every call waits at every moment
  pub waits-at_moments : (i : ℕ) → Throughout (Waiting i) s cs → MomentsThroughout (Waiting i) s (moments_along s cs)
  waits-at_moments i w = calls_wait i cs f S w

-- ---- edition 1, in document 01's own wording: rounds between calls

-- "That channel is visited exactly as often as its weight w"
pub visited-by-weight : (i : ℕ) (s : State) (cs : List Call) → Sound s → AllInRange cs → held s ≡ false → Round s cs → Throughout (Waits s.order i) s cs
    → total (visits_of i) s cs ≡ (at s.channels i).weight
visited-by-weight i s cs S f g R w = visits-answered s cs S f i (calls-round s.order s cs S f g (waits-order s.order i s cs w) R) (waits_steady s.order i s cs S f g w)

-- "and sends at least 1,024w - 1,023 and at most 1,024w + 1,023 bytes", of cost
pub cost-by-weight : (i : ℕ) (s : State) (cs : List Call) → Sound s → AllInRange cs → held s ≡ false → Round s cs → Throughout (Waits s.order i) s cs
    → (granted * (at s.channels i).weight ≤ total (cost_of i) s cs + rest_limit) × (total (cost_of i) s cs ≤ granted * (at s.channels i).weight + rest_limit)
cost-by-weight i s cs S f g R w = cost-answered s cs S f i (calls-round s.order s cs S f g (waits-order s.order i s cs w) R) (waits_steady s.order i s cs S f g w)

-- "For two such channels, after every call, twice the distance between ..": for every list of calls within the round, so after every call, ended or under way
pub two-channels-near : (i j : ℕ) (s : State) (cs : List Call) → Sound s → AllInRange cs → held s ≡ false → Starts s → WithinRound 0 s cs
    → Throughout (Waits s.order i) s cs → Throughout (Waits s.order j) s cs
    → Near s.order (at s.channels i).weight (total (visits_of i) s cs) (at s.channels j).weight (total (visits_of j) s cs)
two-channels-near i j s cs S f g B inside w w' =
    near-answered s cs S f i j B (calls-within s.order s cs S f g (waits-order s.order i s cs w) inside) (waits_steady s.order i s cs S f g w) (waits_steady s.order j s cs S f g w')

-- a round ends
pub round-ends : (k : ℕ) (s : State) (cs : List Call) → Sound s → AllInRange cs → held s ≡ false → Throughout (λ s. s.order ≡ k) s cs → WithinRound 0 s cs
    → total one_sent s cs ≤ per_position * 2 ^ k
round-ends k s cs S f g o inside = sends-answered s cs S f k (calls-order k s cs S f g o).0 (calls-within k s cs S f g o inside)

-- "the next start is the first one after at least one send": from a start on, calls with the order equal throughout that send more than a round can hold
-- begin with one whole round
pub round-reached : (k : ℕ) (s : State) (cs : List Call) → Sound s → AllInRange cs → held s ≡ false → Throughout (λ s. s.order ≡ k) s cs → Starts s
    → per_position * 2 ^ k < total one_sent s cs → (first : List Call) × (others : List Call) × (cs ≡ first ++ others) × Round s first
round-reached k s cs S f g o B l = go (calls_or_round s cs B)
  where
    go : WithinRound 0 s cs ⊎ ((first : List Call) × (others : List Call) × (cs ≡ first ++ others) × Round s first)
        → (first : List Call) × (others : List Call) × (cs ≡ first ++ others) × Round s first
    go (inl w) = let m = round-ends k s cs S f g o w in absurd (omega arith)
    go (inr r) = r

-- ---- round sheets between calls, in both editions

-- In edition 2 the order is asked to be the rows' own, as it is at every start that a history reaches. (A sound state may hold it above them at a start. The
-- sheet is the same then, but the Next behind the round's last visit goes on, through its end, into the next round: no start is between the two calls.)
pub sheet_between-calls : (s : State) (cs : List Call) → Sound s → AllInRange cs → (held s ≡ true → s.order ≡ rows_order s) → Round s cs
    → Throughout (RowsAre s.rows) s cs → OnSheet s (along visited s cs)
sheet_between-calls s cs S f o R st =
    let own = calls-own s.rows cs f S R.starts.rows st (own-order S o) in
    sheet_answered s cs S f (along-round (RowsOwn s.rows) (λ r T p e. p.1) s cs S f own R) st

-- from Start on nothing is asked of the order
pub sheet_in_history : (e : ℕ) → Edition e → (before cs : List Call) → AllInRange before → AllInRange cs → Round (run (fresh e) before) cs
    → Throughout (RowsAre (run (fresh e) before).rows) (run (fresh e) before) cs → OnSheet (run (fresh e) before) (along visited (run (fresh e) before) cs)
sheet_in_history e E before cs f g R st =
    sheet_between-calls (run (fresh e) before) cs (reached-sound e E before f) g (start-own e E before f R.starts) R st
