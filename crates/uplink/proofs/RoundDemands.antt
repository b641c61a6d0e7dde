-- Demand 3 and round sheets over calls on one lent memory, from any sound one: each promise once for both editions, over any part of the moments of the calls
-- and by what their answers say. Then in document 01's own wording, which is edition 1's. That calls are in range says that a reference is a 32-bit number.
use Rattle.std.proofs.Common.{◌≡◌, ℕ, ◌+◌, ◌*◌, ◌^◌, ◌<◌, ◌≤◌, true, false, List, [], ◌∷◌, ◌++◌, sym, refl, ap, ◌∙◌, subst}
use mathlib.Core.Option.{some}
use Rattle.answers.specs.Answer.{refused, given}
use Rattle.spread.specs.Distance.{Near}
use Rattle.answers.proofs.Answers.{refused-given, given_inj, nine_unused}
use Rattle.lists.specs.Tests.{is_empty}
use Rattle.rules.specs.Numbers.{granted, rest_limit}
use Rattle.rules.specs.State.{State, fresh, at, held}
use Rattle.rules.specs.Reply.{Reply}
use Rattle.rules.specs.Next.{Sent, Chosen, terms_most, choose_by, next_call}
use Rattle.rules.specs.Calls.{Call, run, AllInRange}
use Rattle.rules.specs.Facts.{Edition, Sound}
use Rattle.rules.proofs.Choosing.{rows_order, row-found}
use Rattle.rules.proofs.NextFrame.{next-terms}
use Rattle.memory.specs.Reading.{state_of}
use Rattle.memory.specs.Memory.{sound_bytes, fresh_memory, Left, replied, on}
use Rattle.memory.proofs.OneMemory.{memory-sound}
use Rattle.memory.proofs.OnLaws.{on-memory}
use Rattle.memory.proofs.Fresh.{fresh-memory-sound, fresh-memory-state}
use Rattle.promises.specs.Moments.{Moment, moved_by, sent_at, visits_at, cost_at, moments_total}
use Rattle.promises.specs.Rounds.{Starts, Waiting, Waits, MomentsBefore, MomentsThroughout, Steady, MomentsWithin, MomentsRound, per_position, one_sent, visits_of, cost_of}
use Rattle.promises.specs.Sheets.{visited, visited_by, RowsAre, OnSheet}
use Rattle.promises.proofs.Made.{moments-along}
use Rattle.promises.proofs.OwnOrder.{start-own}
use Rattle.promises.proofs.Promises.{
  part-visited,
  part-cost,
  part-near,
  part-ends,
  part-reached,
  part_sheet,
  visits-answered,
  cost-answered,
  near-answered,
  sheet_answered,
  waits-at_moments,
  visited-by-weight,
  cost-by-weight,
  two-channels-near,
  round-ends,
  round-reached,
  sheet_between-calls,
}
use Rattle.uplink.specs.Lent.{answer_on, number_on, run_on, along_on, total_on, moments_on, held_on, order_on, weight_on, ThroughoutOn, WithinOn, RoundOn}
use Rattle.uplink.proofs.Runs.{sound-on, run-state}
use Rattle.uplink.proofs.Observed.{along-on, total-on, throughout_on, within_on, round-on, on-round}

-- ---- over a part of the moments of calls, in both editions

-- the calls cs on the sound memory b have the moments xs, then ms, then ys; ms begins at the state `from`
module _ (b : List ℕ) (cs : List Call) (e : sound_bytes b ≡ true) (f : AllInRange cs) (xs ms ys : List Moment) (split : moments_on b cs ≡ xs ++ (ms ++ ys)) where
  abbrev from : State
  from = moved_by (state_of b) xs

  S : Sound (state_of b)
  S = (memory-sound b e).state

  -- "That channel is visited exactly as often as its weight w"
  pub part-visited-on : (i : ℕ) → MomentsRound from ms → Steady from.order i from ms → moments_total (visits_at i) from ms ≡ (at from.channels i).weight
  part-visited-on = part-visited (state_of b) cs S f xs ms ys split

  -- "and sends at least 1,024w - 1,023 and at most 1,024w + 1,023 bytes", of cost
  pub part-cost-on : (i : ℕ) → MomentsRound from ms → Steady from.order i from ms
      → (granted * (at from.channels i).weight ≤ moments_total (cost_at i) from ms + rest_limit)
      × (moments_total (cost_at i) from ms ≤ granted * (at from.channels i).weight + rest_limit)
  part-cost-on = part-cost (state_of b) cs S f xs ms ys split

  -- the bound on two channels, at every moment
  pub part-near-on : (i j : ℕ) → Starts from → MomentsWithin 0 from ms → Steady from.order i from ms → Steady from.order j from ms
      → Near from.order (at from.channels i).weight (moments_total (visits_at i) from ms) (at from.channels j).weight (moments_total (visits_at j) from ms)
  part-near-on = part-near (state_of b) cs S f xs ms ys split

  -- a round ends, and the next start is reached
  pub part-ends-on : (k : ℕ) → MomentsBefore (λ r. r.order ≡ k) from ms → MomentsWithin 0 from ms → moments_total sent_at from ms ≤ per_position * 2 ^ k
  part-ends-on = part-ends (state_of b) cs S f xs ms ys split

  pub part-reached-on : (k : ℕ) → (MomentsWithin 0 from ms → MomentsBefore (λ r. r.order ≡ k) from ms) → Starts from
      → per_position * 2 ^ k < moments_total sent_at from ms → (first : List Moment) × (others : List Moment) × (ms ≡ first ++ others) × MomentsRound from first
  part-reached-on = part-reached (state_of b) cs S f xs ms ys split

  -- "the visits of one round with every row always waiting" (02 §9) are those of the sheet, in its order
  pub part_sheet_on : MomentsRound from ms → MomentsThroughout (RowsAre from.rows) from ms → OnSheet from (visited_by from ms)
  part_sheet_on = part_sheet (state_of b) cs S f xs ms ys split

-- ---- over calls by what their answers say, in both editions

module _ (b : List ℕ) (cs : List Call) (e : sound_bytes b ≡ true) (f : AllInRange cs) where
  here : Sound (state_of b)
  here = (memory-sound b e).state

  -- the moments lead to what the calls leave
  pub moments_lead-on : moved_by (state_of b) (moments_on b cs) ≡ state_of (run_on b cs)
  moments_lead-on = (moments-along cs f here).there ∙ sym (run-state b cs f e)

  pub visits-answered-on : (i : ℕ) → MomentsRound (state_of b) (moments_on b cs) → Steady (order_on b) i (state_of b) (moments_on b cs)
      → total_on (visits_of i) b cs ≡ weight_on i b
  visits-answered-on i R st = total-on (visits_of i) b cs f e ∙ visits-answered (state_of b) cs here f i R st

  pub cost-answered-on : (i : ℕ) → MomentsRound (state_of b) (moments_on b cs) → Steady (order_on b) i (state_of b) (moments_on b cs)
      → (granted * weight_on i b ≤ total_on (cost_of i) b cs + rest_limit) × (total_on (cost_of i) b cs ≤ granted * weight_on i b + rest_limit)
  cost-answered-on i R st = rw (total-on (cost_of i) b cs f e) (cost-answered (state_of b) cs here f i R st)

  -- "after every call"
  pub near-answered-on : (i j : ℕ) → Starts (state_of b) → MomentsWithin 0 (state_of b) (moments_on b cs) → Steady (order_on b) i (state_of b) (moments_on b cs)
      → Steady (order_on b) j (state_of b) (moments_on b cs)
      → Near (order_on b) (weight_on i b) (total_on (visits_of i) b cs) (weight_on j b) (total_on (visits_of j) b cs)
  near-answered-on i j B inside st₁ st₂ =
      rw (total-on (visits_of i) b cs f e, total-on (visits_of j) b cs f e) (near-answered (state_of b) cs here f i j B inside st₁ st₂)

  -- the slots that the answers name with the start mark, in order
  pub sheet_answered-on : MomentsRound (state_of b) (moments_on b cs) → ThroughoutOn (RowsAre (state_of b).rows) b cs → OnSheet (state_of b) (along_on visited b cs)
  sheet_answered-on R st =
      subst (OnSheet (state_of b)) (sym (along-on visited b cs f e))
      (sheet_answered (state_of b) cs here f R (throughout_on (RowsAre (state_of b).rows) b cs f e st))

  -- "has a record waiting at the start and after every call": then at every moment
  pub waits-at_moments_on : (i : ℕ) → ThroughoutOn (Waiting i) b cs → MomentsThroughout (Waiting i) (state_of b) (moments_on b cs)
  waits-at_moments_on i w = waits-at_moments (state_of b) cs here f i (throughout_on (Waiting i) b cs f e w)

-- ---- terms

-- "Up to 2^k - 1 terms may be taken, k as before the call, not two", in edition 2 (02 §3); in edition 1 "(0, 1 or 2)"
pub terms-on : (b : List ℕ) (a : Sent) → sound_bytes b ≡ true → (on next_call b).answer ≡ given a → a.terms ≤ terms_most (state_of b)
terms-on b a e q = go (next_call (state_of b)) refl (ap (λ (x : Left Sent). x.answer) (sym (on-memory next_call b e)) ∙ q)
  where
    go : (r : Reply Sent) → next_call (state_of b) ≡ r → (replied b r).answer ≡ given a → a.terms ≤ terms_most (state_of b)
    go (refused n) p z = absurd (refused-given z)
    go (given d) p z = rw (← given_inj z) (next-terms (memory-sound b e).state p)

-- in a sound memory with rows a slot is chosen, within those terms
pub row-found-on : (b : List ℕ) → sound_bytes b ≡ true → is_empty (state_of b).rows ≡ false
    → (x : Chosen) × (choose_by (state_of b).scan.visit (state_of b) ≡ some x) × (x.terms ≤ terms_most (state_of b))
row-found-on b e = row-found (memory-sound b e).state

-- so 9 is not used (02 §8): no call answers it, in either edition, on any bytes and any numbers
pub nine_unused_on : (b : List ℕ) (c : Call) → number_on b c ≡ 9 → ⊥
nine_unused_on b c = nine_unused (answer_on b c)

-- ---- edition 1, in document 01's own wording: rounds between calls

-- "That channel is visited exactly as often as its weight w"
pub visited-by-weight-on : (i : ℕ) (b : List ℕ) (cs : List Call) → sound_bytes b ≡ true → AllInRange cs → held_on b ≡ false → RoundOn b cs → ThroughoutOn (Waits (order_on b) i) b cs
    → total_on (visits_of i) b cs ≡ weight_on i b
visited-by-weight-on i b cs e f g R w =
    total-on (visits_of i) b cs f e
    ∙ visited-by-weight i (state_of b) cs (memory-sound b e).state f g (round-on b cs f e R) (throughout_on (Waits (order_on b) i) b cs f e w)

-- "and sends at least 1,024w - 1,023 and at most 1,024w + 1,023 bytes": "Demand 3's bytes read as cost." (02 §1)
pub cost-by-weight-on : (i : ℕ) (b : List ℕ) (cs : List Call) → sound_bytes b ≡ true → AllInRange cs → held_on b ≡ false → RoundOn b cs → ThroughoutOn (Waits (order_on b) i) b cs
    → (granted * weight_on i b ≤ total_on (cost_of i) b cs + rest_limit) × (total_on (cost_of i) b cs ≤ granted * weight_on i b + rest_limit)
cost-by-weight-on i b cs e f g R w =
    rw (total-on (cost_of i) b cs f e)
    (cost-by-weight i (state_of b) cs (memory-sound b e).state f g (round-on b cs f e R) (throughout_on (Waits (order_on b) i) b cs f e w))

-- "twice the distance between w1 times the second's visits and w2 times the first's is at most the larger weight times the larger of 2 and the order":
-- for every list of calls within the round, so after every call, ended or under way
pub two-channels-near-on : (i j : ℕ) (b : List ℕ) (cs : List Call) → sound_bytes b ≡ true → AllInRange cs → held_on b ≡ false → Starts (state_of b) → WithinOn 0 b cs
    → ThroughoutOn (Waits (order_on b) i) b cs → ThroughoutOn (Waits (order_on b) j) b cs
    → Near (order_on b) (weight_on i b) (total_on (visits_of i) b cs) (weight_on j b) (total_on (visits_of j) b cs)
two-channels-near-on i j b cs e f g B inside w w' =
    rw (total-on (visits_of i) b cs f e, total-on (visits_of j) b cs f e)
    (two-channels-near i j (state_of b) cs (memory-sound b e).state f g B (within_on 0 b cs f e inside)
    (throughout_on (Waits (order_on b) i) b cs f e w) (throughout_on (Waits (order_on b) j) b cs f e w'))

-- as long as no start is reached after a send, at most 64 times 2,047 records for each of 2^k positions are sent: so a round ends
pub round-ends-on : (k : ℕ) (b : List ℕ) (cs : List Call) → sound_bytes b ≡ true → AllInRange cs → held_on b ≡ false → ThroughoutOn (λ s. s.order ≡ k) b cs → WithinOn 0 b cs
    → total_on one_sent b cs ≤ per_position * 2 ^ k
round-ends-on k b cs e f g o inside =
    rw (total-on one_sent b cs f e)
    (round-ends k (state_of b) cs (memory-sound b e).state f g (throughout_on (λ s. s.order ≡ k) b cs f e o) (within_on 0 b cs f e inside))

first_in_range : (first others : List Call) → AllInRange (first ++ others) → AllInRange first
first_in_range [] others f = tt
first_in_range (c ∷ cs) others f = (f.0, first_in_range cs others f.1)

-- "the next start is the first one after at least one send": from a start on, calls with the order equal throughout that send more than a round can hold
-- begin with one whole round
pub round-reached-on : (k : ℕ) (b : List ℕ) (cs : List Call) → sound_bytes b ≡ true → AllInRange cs → held_on b ≡ false → ThroughoutOn (λ s. s.order ≡ k) b cs
    → Starts (state_of b) → per_position * 2 ^ k < total_on one_sent b cs
    → (first : List Call) × (others : List Call) × (cs ≡ first ++ others) × RoundOn b first
round-reached-on k b cs e f g o B l =
    let (first, others, split, R) =
    round-reached k (state_of b) cs (memory-sound b e).state f g (throughout_on (λ s. s.order ≡ k) b cs f e o) B (rw (total-on one_sent b cs f e) at l) in
    (first, others, split, on-round b first (first_in_range first others (rw split at f)) e R)

-- ---- round sheets between calls, in both editions

-- in edition 2 the order is asked to be the rows' own
pub sheet_between-calls-on : (b : List ℕ) (cs : List Call) → sound_bytes b ≡ true → AllInRange cs → (held_on b ≡ true → order_on b ≡ rows_order (state_of b))
    → RoundOn b cs → ThroughoutOn (RowsAre (state_of b).rows) b cs → OnSheet (state_of b) (along_on visited b cs)
sheet_between-calls-on b cs e f o R st =
    subst (OnSheet (state_of b)) (sym (along-on visited b cs f e))
    (sheet_between-calls (state_of b) cs (memory-sound b e).state f o (round-on b cs f e R) (throughout_on (RowsAre (state_of b).rows) b cs f e st))

-- from the memory that Start writes nothing is asked of the order
pub sheet_in_history_on : (e : ℕ) → Edition e → (before cs : List Call) → AllInRange before → AllInRange cs → RoundOn (run_on (fresh_memory e) before) cs
    → ThroughoutOn (RowsAre (state_of (run_on (fresh_memory e) before)).rows) (run_on (fresh_memory e) before) cs
    → OnSheet (state_of (run_on (fresh_memory e) before)) (along_on visited (run_on (fresh_memory e) before) cs)
sheet_in_history_on e E before cs f g R st =
    let b = run_on (fresh_memory e) before in
    let now : state_of b ≡ run (fresh e) before =
    run-state (fresh_memory e) before f (fresh-memory-sound e E) ∙ ap (λ (s : State). run s before) (fresh-memory-state e E)
    in
    let own : held_on b ≡ true → order_on b ≡ rows_order (state_of b) =
    subst (λ (s : State). Starts s → held s ≡ true → s.order ≡ rows_order s) (sym now) (start-own e E before f) R.starts
    in
    sheet_between-calls-on b cs (sound-on (fresh_memory e) before f (fresh-memory-sound e E)) g own R st
