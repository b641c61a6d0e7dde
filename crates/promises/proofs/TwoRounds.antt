-- A channel whose record comes in the middle of a round, in edition 2: until its visit it keeps its record, so it is visited in what is left of that round or
-- waits at the next start, and then is visited in the round that begins there.
use Prim.Native.Nat.{ℕ, ◌+◌, ◌*◌, ◌^◌, ◌≤◌, ◌<◌}
use mathlib.Core.Path.{◌≡◌}
use mathlib.Core.Bool.{true}
use mathlib.Core.List.{List, ◌++◌}
use mathlib.Core.Logic.{◌⊎◌, inl, inr}
use native.Mathlib.Omega.{arith}
use Rattle.rules.specs.State.{State, held}
use Rattle.rules.specs.Facts.{after_grant, SoundTo}
use Rattle.promises.specs.Moments.{Moment, moved_by, sent_at, visits_at, moments_total}
use Rattle.promises.specs.Rounds.{Starts, Waiting, MomentsBefore, MomentsWithin, per_position}
use Rattle.promises.specs.NobodyWaits.{OutOfVisit, NoRestart}
use Rattle.promises.proofs.Lawful.{Lawful, moved-by-kept, lawful-first, lawful-rest}
use Rattle.promises.proofs.Counts.{total_append}
use Rattle.promises.proofs.EveryMoment.{before-first, before-rest}
use Rattle.promises.proofs.NoRestart.{none_first, none_rest, held-up_to}
use Rattle.promises.proofs.StillWaits.{Waited, visited_or_waits}
use Rattle.promises.proofs.Ends.{moments_end-later}
use Rattle.promises.proofs.Reached.{within_or_start}
use Rattle.promises.proofs.HeldEnds.{visited_in_time}

-- from any state on, before two rounds' records have been sent, where the order is up to k and the channel that waits is not being visited
pub visited_in_two : (k i : ℕ) (s : State) (ms : List Moment) → SoundTo after_grant s → Lawful s ms → NoRestart ms → held s ≡ true
    → MomentsBefore (λ r. r.order ≤ k) s ms → Waiting i s → OutOfVisit i s → 2 * (per_position * 2 ^ k) < moments_total sent_at s ms
    → 1 ≤ moments_total (visits_at i) s ms
visited_in_two k i s ms S law on g o w out l = go (within_or_start s ms)
  where
    go : MomentsWithin 1 s ms ⊎ ((first : List Moment) × (others : List Moment) × (ms ≡ first ++ others) × MomentsWithin 1 s first × Starts (moved_by s first))
        → 1 ≤ moments_total (visits_at i) s ms
    go (inl inside) = absurd (let most = moments_end-later k s ms S law (held-up_to k ms s law on g o) inside in omega arith)
    go (inr (first, others, split, inside, B)) =
        rw (split, total_append (visits_at i) first others s)
        (either
        (visited_or_waits i (λ n r. Unit {0}) (λ m n r T can x z Y u. tt) 0 s first law₁ S on₁ (record { held-there = g; waits = w; out = out }) tt))
      where
        law' : Lawful s (first ++ others)
        law' = rw split at law

        law₁ : Lawful s first
        law₁ = lawful-first first others s law'

        on₁ : NoRestart first
        on₁ = none_first first others (rw split at on)

        o' : MomentsBefore (λ r. r.order ≤ k) s (first ++ others)
        o' = rw split at o

        most : moments_total sent_at s first ≤ per_position * 2 ^ k
        most = moments_end-later k s first S law₁ (held-up_to k first s law₁ on₁ g (before-first _ first others s o')) inside

        l' : 2 * (per_position * 2 ^ k) < moments_total sent_at s first + moments_total sent_at (moved_by s first) others
        l' = rw (split, total_append sent_at first others s) at l

        either : (1 ≤ moments_total (visits_at i) s first) ⊎ (Waited i (moved_by s first) × Unit {0})
            → 1 ≤ moments_total (visits_at i) s first + moments_total (visits_at i) (moved_by s first) others
        either (inl v) = omega arith
        either (inr (Y, u)) =
            let v : 1 ≤ moments_total (visits_at i) (moved_by s first) others =
            visited_in_time k (moved_by s first) others (moved-by-kept first law₁ S) (lawful-rest first others s law') (none_rest first others (rw split at on))
            Y.held-there (before-rest _ first others s o') i B Y.waits (omega (arith, most, l'))
            in
            omega arith
