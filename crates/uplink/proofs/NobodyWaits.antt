-- Nobody waits two rounds (02 §13), over calls on one lent memory, from any sound one of edition 2 and without a Start that is taken: a channel that waits where
-- a round starts is visited before the next one starts, the next start comes, and the answers say so.
use Rattle.std.proofs.Common.{◌≡◌, ℕ, ◌*◌, ◌^◌, ◌<◌, ◌≤◌, true, List, ◌++◌}
use Rattle.spread.specs.Limits.{columns}
use Rattle.rules.specs.State.{State, held}
use Rattle.rules.specs.Calls.{Call, AllInRange}
use Rattle.rules.specs.Facts.{Sound}
use Rattle.memory.specs.Reading.{state_of}
use Rattle.memory.specs.Memory.{sound_bytes}
use Rattle.memory.proofs.OneMemory.{memory-sound}
use Rattle.promises.specs.Histories.{NoStart}
use Rattle.promises.specs.Moments.{Moment, moved_by, sent_at, visits_at, moments_total}
use Rattle.promises.specs.Rounds.{Starts, Waiting, MomentsWithin, MomentsRound, per_position, one_sent, visits_of}
use Rattle.promises.specs.NobodyWaits.{HeldRound, OutOfVisit}
use Rattle.promises.proofs.Promises.{part-nobody-waits, part-waiting-visited, part-held-ends, part_in_time, part_in-two, nobody-waits-answered, in_time_answered, in_two-answered}
use Rattle.uplink.specs.Lent.{total_on, moments_on, held_on, ThroughoutOn}
use Rattle.uplink.proofs.Observed.{total-on, throughout_on}

-- ---- over a part of the moments of calls

-- the calls cs on the sound memory b have the moments xs, then ms, then ys; ms begins at the state `from`
module _ (b : List ℕ) (cs : List Call) (e : sound_bytes b ≡ true) (f : AllInRange cs) (xs ms ys : List Moment) (split : moments_on b cs ≡ xs ++ (ms ++ ys)) where
  abbrev from : State
  from = moved_by (state_of b) xs

  S : Sound (state_of b)
  S = (memory-sound b e).state

  -- "is visited at least once between the two, whatever calls others make and however often the order rises"
  pub nobody-waits-on : (i : ℕ) → NoStart cs → HeldRound i from ms → 1 ≤ moments_total (visits_at i) from ms
  nobody-waits-on = part-nobody-waits (state_of b) cs S f xs ms ys split

  -- "with a record waiting before and at one round's start, and after every call until the next start"
  pub waiting-visited-on : (i : ℕ) → ThroughoutOn (Waiting i) b cs → held from ≡ true → MomentsRound from ms → 1 ≤ moments_total (visits_at i) from ms
  waiting-visited-on i w = part-waiting-visited (state_of b) cs S f xs ms ys split i (throughout_on (Waiting i) b cs f e w)

  -- the next start comes, whatever the order rises to
  pub held-ends-on : NoStart cs → held from ≡ true → MomentsWithin 0 from ms → moments_total sent_at from ms ≤ per_position * 2 ^ columns
  held-ends-on = part-held-ends (state_of b) cs S f xs ms ys split

  -- so the channel is visited before so many records have been sent: from a start on, or in the middle of a round twice as many
  pub in_time_on : (i : ℕ) → NoStart cs → held from ≡ true → Starts from → Waiting i from → per_position * 2 ^ columns < moments_total sent_at from ms
      → 1 ≤ moments_total (visits_at i) from ms
  in_time_on = part_in_time (state_of b) cs S f xs ms ys split

  pub in_two-on : (i : ℕ) → NoStart cs → held from ≡ true → Waiting i from → OutOfVisit i from → 2 * (per_position * 2 ^ columns) < moments_total sent_at from ms
      → 1 ≤ moments_total (visits_at i) from ms
  in_two-on = part_in-two (state_of b) cs S f xs ms ys split

-- ---- over calls by what their answers say

module _ (b : List ℕ) (cs : List Call) (e : sound_bytes b ≡ true) (f : AllInRange cs) where
  here : Sound (state_of b)
  here = (memory-sound b e).state

  pub nobody-waits-answered-on : (i : ℕ) → NoStart cs → HeldRound i (state_of b) (moments_on b cs) → 1 ≤ total_on (visits_of i) b cs
  nobody-waits-answered-on i n H = rw (total-on (visits_of i) b cs f e) (nobody-waits-answered (state_of b) cs here f i n H)

  pub in_time_answered-on : (i : ℕ) → NoStart cs → held_on b ≡ true → Starts (state_of b) → Waiting i (state_of b)
      → per_position * 2 ^ columns < total_on one_sent b cs → 1 ≤ total_on (visits_of i) b cs
  in_time_answered-on i n g B w l =
      rw (total-on (visits_of i) b cs f e) (in_time_answered (state_of b) cs here f i n g B w (rw (total-on one_sent b cs f e) at l))

  pub in_two-answered-on : (i : ℕ) → NoStart cs → held_on b ≡ true → Waiting i (state_of b) → OutOfVisit i (state_of b)
      → 2 * (per_position * 2 ^ columns) < total_on one_sent b cs → 1 ≤ total_on (visits_of i) b cs
  in_two-answered-on i n g w out l =
      rw (total-on (visits_of i) b cs f e) (in_two-answered (state_of b) cs here f i n g w out (rw (total-on one_sent b cs f e) at l))
