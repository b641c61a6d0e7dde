-- In edition 2 the next start comes, however often the order rises: what is left of a round is counted to the last position of the highest order that it meets.
-- So a channel that waits at a start is visited before so many records have been sent.
use Prim.Native.Nat.{ℕ, ◌*◌, ◌^◌, ◌≤◌, ◌<◌}
use mathlib.Core.Path.{◌≡◌}
use mathlib.Core.Bool.{true}
use mathlib.Core.List.{List, ◌++◌}
use native.Mathlib.Omega.{arith}
use Rattle.rules.specs.State.{State, held}
use Rattle.rules.specs.Facts.{after_grant, SoundTo}
use Rattle.promises.specs.Moments.{Moment, sent_at, visits_at, moments_total}
use Rattle.promises.specs.Rounds.{Starts, Waiting, MomentsBefore, MomentsWithin, MomentsRound, per_position}
use Rattle.promises.specs.NobodyWaits.{NoRestart}
use Rattle.promises.proofs.Lawful.{Lawful, lawful-first}
use Rattle.promises.proofs.Counts.{total_append}
use Rattle.promises.proofs.NoRestart.{none_first, held-up_to}
use Rattle.promises.proofs.NobodyWaits.{nobody-waits}
use Rattle.promises.proofs.Ends.{moments_end}
use Rattle.promises.proofs.Reached.{moments_reached}

-- moments of edition 2 with an order up to k before each of them
module _ (k : ℕ) (s : State) (ms : List Moment) (S : SoundTo after_grant s) (law : Lawful s ms) (on : NoRestart ms) (g : held s ≡ true)
    (o : MomentsBefore (λ r. r.order ≤ k) s ms) where
  -- as long as no start is reached after a send
  pub held-ends : MomentsWithin 0 s ms → moments_total sent_at s ms ≤ per_position * 2 ^ k
  held-ends inside = moments_end k s ms S law (held-up_to k ms s law on g o) inside

  pub held-reached : Starts s → per_position * 2 ^ k < moments_total sent_at s ms
      → (first : List Moment) × (others : List Moment) × (ms ≡ first ++ others) × MomentsRound s first
  held-reached B l = moments_reached k s ms S law (λ inside. held-up_to k ms s law on g o) B l

  -- a channel that waits at the start
  pub visited_in_time : (i : ℕ) → Starts s → Waiting i s → per_position * 2 ^ k < moments_total sent_at s ms → 1 ≤ moments_total (visits_at i) s ms
  visited_in_time i B W l =
      let (first, others, split, R) = held-reached B l in
      let law' : Lawful s (first ++ others) = rw split at law in
      let v : 1 ≤ moments_total (visits_at i) s first =
      nobody-waits i s first S (lawful-first first others s law') (none_first first others (rw split at on)) (record { held-there = g; waits = W; round = R })
      in
      rw (split, total_append (visits_at i) first others s) (omega arith)
