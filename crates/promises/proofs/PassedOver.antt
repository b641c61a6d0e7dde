-- What edition 1 does not promise, worked out: a door of weight 1 with records waiting, beside a drive of weight 4 that empties at each of its visits and is
-- refilled. When the drive is empty the order falls to 1 and P to 1, which is a start; refilled, it is found at position 3 and P falls to 1 again. So each round
-- is one send of the drive, and the door is passed over in all of them, without end. With the same calls in edition 2 the door is visited at position 4.
use Prim.Native.Nat.{ℕ, zero, suc, ◌+◌, ◌≤◌, ◌<◌}
use mathlib.Core.Path.{◌≡◌, refl, sym, ap, ◌∙◌, subst}
use mathlib.Core.Bool.{false}
use mathlib.Core.List.{List, [], ◌∷◌, ◌++◌}
use mathlib.Core.Logic.{inr}
use mathlib.Core.Option.{none}
use native.Mathlib.Omega.{arith}
use lib.ListN.{replicate}
use Rattle.bits.specs.Bit.{bit}
use Rattle.bits.specs.Order.{order, order_in}
use Rattle.bits.specs.Trailing.{trailing, trailing_in}
use Rattle.spread.specs.Sequence.{term}
use Rattle.spread.specs.Visits.{column_at}
use Rattle.rules.specs.Numbers.{longest, falling, holding}
use Rattle.rules.specs.State.{Record, cost, opened, Channel, State, blank, fresh, order_of, column_of, held, round_over, shared_use}
use Rattle.rules.specs.Calls.{lowest, open_call, put_call, Call, to_open, to_put, to_next, reply, step, run}
use Rattle.rules.specs.Next.{scanning, next_call}
use Rattle.rules.specs.Facts.{Sound}
use Rattle.rules.proofs.Kept.{reached-sound}
use Rattle.promises.specs.Histories.{next_serial}
use Rattle.promises.specs.Moments.{Moment, a_term, an_end, a_visit, a_send, a_call, moved, moved_by, scan_moments, moments_of, moments_along, visits_at, moments_total}
use Rattle.promises.specs.Rounds.{Starts, Waiting, MomentsWithin, MomentsRound, one_sent, visits_of, total, Throughout}
use Rattle.promises.specs.NobodyWaits.{HeldRound}
use Rattle.promises.proofs.Reached.{no_visit_open, either_end, at_an_end, starts_or_not}
use Rattle.promises.proofs.HeldRounds.{inside, starts-there, within-there}
use Rattle.promises.proofs.Promises.{nobody-waits-answered}

-- slot 0 is the drive, slot 1 the door
abbrev arrivals : List Call
arrivals = to_open 4 ∷ to_open 1 ∷ to_put 1 1 longest 7 ∷ to_put 1 1 longest 8 ∷ to_put 0 1 longest 9 ∷ []

-- the drive is refilled, and a record is sent
abbrev refilled : List Call
refilled = to_put 0 1 longest 9 ∷ to_next ∷ []

-- ---- edition 1

-- the door waits, the drive is empty and will give its next record the serial n
unfoldable pub passed : ℕ → State
passed n =
    let drive : Channel = record { kind = opened; ticket = 1; weight = 4; deficit = 0; serial = n; waiting = [] } in
    let first : Record = record { length = longest; reference = 7 } in
    let second : Record = record { length = longest; reference = 8 } in
    let door : Channel = record { kind = opened; ticket = 1; weight = 1; deficit = 0; serial = 2; waiting = first ∷ second ∷ [] } in
    record {
      edition = falling;
      channels = drive ∷ door ∷ replicate 62 blank;
      rows = 1 ∷ [];
      order = 1;
      scan = record { position = 1; column = 0; to_visit = []; visit = none };
      parked = false;
    }

-- such a state is reached from the fresh one by the drive's first send
passed-reached : run (fresh falling) (arrivals ++ to_next ∷ []) ≡ passed 1
unfolding passed cost bit order order_in trailing trailing_in term column_at fresh order_of column_of round_over lowest open_call put_call scanning next_call reply step run shared_use
passed-reached = refl

-- it is a start at which the door waits, and so is the state that a refill and a send leave
passed-starts : (n : ℕ) → Starts (passed n)
unfolding passed
passed-starts n = record { no_visit = refl; none_remain = refl; at-end = inr refl; rows = refl }

door-waits : (n : ℕ) → Waiting 1 (passed n)
unfolding passed
door-waits n = refl

again : (n : ℕ) → run (passed n) refilled ≡ passed (next_serial n)
unfolding passed cost bit order order_in trailing trailing_in term column_at order_of column_of round_over put_call scanning next_call reply step run shared_use
again n = refl

-- between the two is one whole round, in which the door is not visited: all that `HeldRound` asks for but the edition
abbrev pub short_round : List Moment
short_round = a_call (to_put 0 1 longest 9) ∷ a_term ∷ a_term ∷ a_visit ∷ a_send ∷ []

five_moments : (n : ℕ) → moments_along (passed n) refilled ≡ short_round
unfolding passed cost bit order order_in trailing trailing_in term column_at order_of column_of round_over put_call scanning next_call reply step run moved moved_by scan_moments moments_of moments_along shared_use
five_moments n = refl

pub short-round : (n : ℕ) → MomentsRound (passed n) short_round
unfolding passed cost bit order order_in trailing trailing_in term column_at order_of column_of round_over put_call reply step moved moved_by moments_total MomentsWithin shared_use
short-round n =
    record {
      starts = passed-starts n;
      within = (unsent, (unsent, (unsent, (unsent, (unsent, tt)))));
      sent = omega arith;
      ends = passed-starts (next_serial n);
    }
  where
    unsent : {A : Type 0} → 0 < 0 → A
    unsent l = absurd (omega arith)

pub door-not-visited : (n : ℕ) → (held (passed n) ≡ false) × (moments_total (visits_at 1) (passed n) short_round ≡ 0)
unfolding passed cost bit order order_in trailing trailing_in term column_at order_of column_of round_over put_call reply step moved moved_by moments_total shared_use
door-not-visited n = (refl, refl)

-- and so in any number of such rounds: m of them send m records and leave a start at which the door waits, and it has not been visited
unfoldable pub rounds : ℕ → List Call
rounds zero = []
rounds (suc m) = refilled ++ rounds m

pub record PassedOver (m n : ℕ) : Type 0 where
  pub sent : total one_sent (passed n) (rounds m) ≡ m
  pub visits : total (visits_of 1) (passed n) (rounds m) ≡ 0
  pub starts : Starts (run (passed n) (rounds m))
  pub waits : Throughout (Waiting 1) (passed n) (rounds m)

pub without_end : (m n : ℕ) → PassedOver m n
unfolding passed rounds cost bit order order_in trailing trailing_in term column_at order_of column_of round_over put_call scanning next_call reply step run total Throughout shared_use
without_end zero n = record { sent = refl; visits = refl; starts = passed-starts n; waits = refl }
without_end (suc m) n =
    let later : PassedOver m (next_serial n) = without_end m (next_serial n) in
    let more : 0 + (1 + m) ≡ suc m = omega arith in
    record {
      sent = ap (λ (x : ℕ). 0 + (1 + x)) later.sent ∙ more;
      visits = ap (λ (x : ℕ). 0 + (0 + x)) later.visits;
      starts = later.starts;
      waits = (refl, (refl, later.waits));
    }

-- ---- the same calls in both editions: five sends, with a refill of the drive before each but the first

unfoldable pub arrived : ℕ → State
arrived e = run (fresh e) arrivals

unfoldable pub five_sends : List Call
five_sends = to_next ∷ refilled ++ refilled ++ refilled ++ refilled

passed_in_1 : (total (visits_of 0) (arrived falling) five_sends ≡ 5) × (total (visits_of 1) (arrived falling) five_sends ≡ 0)
unfolding arrived five_sends cost bit order order_in trailing trailing_in term column_at fresh order_of column_of round_over lowest open_call put_call scanning next_call reply step run total shared_use
passed_in_1 = (refl, refl)

visited_in_2 : (total (visits_of 0) (arrived holding) five_sends ≡ 4) × (total (visits_of 1) (arrived holding) five_sends ≡ 1)
unfolding arrived five_sends cost bit order order_in trailing trailing_in term column_at fresh order_of column_of round_over lowest open_call put_call scanning next_call reply step run total shared_use
visited_in_2 = (refl, refl)

-- in edition 2 they are one round, to its end, and the visit is what the theorem says
abbrev pub long_round : List Moment
long_round =
    let refill : Moment = a_call (to_put 0 1 longest 9) in
    a_term ∷ a_visit ∷ a_send ∷ refill ∷ a_term ∷ a_term ∷ a_visit ∷ a_send ∷ refill ∷ a_term ∷ a_visit ∷ a_send ∷ refill ∷ a_term ∷ a_visit ∷ a_send ∷ refill
    ∷ a_term ∷ a_term ∷ a_visit ∷ a_send ∷ an_end ∷ []

whole_moments : moments_along (arrived holding) five_sends ≡ long_round
unfolding arrived five_sends cost bit order order_in trailing trailing_in term column_at fresh order_of column_of round_over lowest open_call put_call scanning next_call reply step run moved moved_by scan_moments moments_of moments_along shared_use
whole_moments = refl

pub long-round : HeldRound 1 (arrived holding) long_round
unfolding arrived cost bit order order_in trailing trailing_in term column_at fresh order_of column_of round_over lowest open_call put_call reply step run moved moved_by moments_total no_visit_open either_end at_an_end starts_or_not inside shared_use
long-round =
    record {
      held-there = refl;
      waits = refl;
      round = record {
        starts = starts-there (arrived holding) refl;
        within = within-there 0 (arrived holding) long_round refl;
        sent = omega arith;
        ends = starts-there (moved_by (arrived holding) long_round) refl;
      };
    }

arrived-sound : Sound (arrived holding)
unfolding arrived
arrived-sound = reached-sound holding (omega arith, omega arith) arrivals (tt, (tt, (omega arith, (omega arith, (omega arith, tt)))))

promised : 1 ≤ total (visits_of 1) (arrived holding) five_sends
unfolding five_sends
promised =
    nobody-waits-answered (arrived holding) five_sends arrived-sound
    (tt, (omega arith, (tt, (omega arith, (tt, (omega arith, (tt, (omega arith, (tt, tt))))))))) 1 refl
    (subst (HeldRound 1 (arrived holding)) (sym whole_moments) long-round)
