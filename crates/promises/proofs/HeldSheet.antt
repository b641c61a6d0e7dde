-- A sound start of edition 2 whose order, 2, is held above that of its one row, of weight 1: no history leads to it, an image may hold it. The round's visits
-- are the sheet's all the same. But two calls of Next, from this start to the next one between calls, hold that round and a second one: so between calls the
-- order is asked for.
use Prim.Native.Nat.{◌<◌}
use mathlib.Core.Path.{◌≡◌, refl}
use mathlib.Core.Bool.{false}
use mathlib.Core.List.{List, [], ◌∷◌, ◌++◌}
use native.Mathlib.Omega.{arith}
use Rattle.bits.specs.Bit.{bit}
use Rattle.bits.specs.Order.{order, order_in}
use Rattle.bits.specs.Trailing.{trailing, trailing_in}
use Rattle.spread.specs.Sequence.{term}
use Rattle.spread.specs.Visits.{column_at}
use Rattle.spread.specs.Round.{order_all, rows_with, visits_from, round_of}
use Rattle.rules.specs.Numbers.{holding, longest}
use Rattle.rules.specs.State.{cost, State, fresh, order_of, column_of, round_over, shared_use}
use Rattle.rules.specs.Sound.{sound}
use Rattle.rules.specs.Calls.{lowest, open_call, put_call, to_open, to_put, reply, step, run}
use Rattle.rules.specs.Next.{scanning, next_call}
use Rattle.rules.specs.Facts.{Sound}
use Rattle.rules.proofs.Tested.{sound_facts}
use Rattle.promises.specs.Histories.{along}
use Rattle.promises.specs.Moments.{Moment, a_term, an_end, a_visit, a_send, moved, moved_by, scan_moments, moments_of, moments_along, moments_total}
use Rattle.promises.specs.Rounds.{MomentsBefore, MomentsThroughout, MomentsRound, Throughout, total, WithinRound, Round}
use Rattle.promises.specs.Sheets.{visited, visited_by, RowsAre, OnSheet}
use Rattle.promises.proofs.Reached.{no_visit_open, either_end, at_an_end, starts_or_not}
use Rattle.promises.proofs.HeldRounds.{starts-there, inside, within-there}
use Rattle.promises.proofs.OneSheet.{two_nexts, not-zero}
use Rattle.promises.proofs.Promises.{part_sheet}

abbrev one : State
one = run (fresh holding) (to_open 1 ∷ to_put 0 1 longest 1 ∷ to_put 0 1 longest 2 ∷ to_put 0 1 longest 3 ∷ [])

unfoldable above : State
above = record { edition = holding; channels = one.channels; rows = one.rows; order = 2; scan = one.scan; parked = false }

above-sound : Sound above
unfolding above fresh sound open_call put_call lowest reply step run order_of column_of cost round_over bit order order_in shared_use
above-sound = sound_facts above refl

-- positions 1 and 3 find no row
abbrev first_round : List Moment
first_round = a_term ∷ a_term ∷ a_visit ∷ a_send ∷ a_term ∷ an_end ∷ []

two-rounds : moments_along above two_nexts ≡ [] ++ (first_round ++ (a_term ∷ a_visit ∷ a_send ∷ an_end ∷ []))
unfolding above cost bit order order_in trailing trailing_in term column_at fresh order_of column_of round_over lowest open_call put_call scanning next_call reply step run moved moved_by scan_moments moments_of moments_along shared_use
two-rounds = refl

first-round : MomentsRound above first_round
unfolding above cost bit order order_in trailing trailing_in term column_at fresh order_of column_of round_over lowest open_call put_call reply step run moved moved_by moments_total no_visit_open either_end at_an_end starts_or_not inside shared_use
first-round =
    record {
      starts = starts-there above refl;
      within = within-there 0 above first_round refl;
      sent = omega arith;
      ends = starts-there (moved_by above first_round) refl;
    }

rows_stay : MomentsThroughout (RowsAre above.rows) above first_round
unfolding above cost bit order order_in trailing trailing_in term column_at fresh order_of column_of round_over lowest open_call put_call reply step run moved moved_by MomentsBefore shared_use
rows_stay = ((refl, (refl, (refl, (refl, (refl, (refl, tt)))))), refl)

-- so its visits are the sheet's
on_sheet : OnSheet above (visited_by above first_round)
unfolding moved_by
on_sheet = part_sheet above two_nexts above-sound (tt, (tt, tt)) [] first_round (a_term ∷ a_visit ∷ a_send ∷ an_end ∷ []) two-rounds first-round rows_stay

-- between calls the two are a round as document 01 has it, the rows stay, and there are two visits
between-calls : Round above two_nexts × Throughout (RowsAre above.rows) above two_nexts × (along visited above two_nexts ≡ 0 ∷ 0 ∷ [])
    × (round_of (1 ∷ []) ≡ 0 ∷ [])
unfolding above cost bit order order_in trailing trailing_in term column_at fresh order_of column_of order_all rows_with visits_from round_of round_over lowest open_call put_call scanning next_call reply step run along total WithinRound Throughout shared_use
between-calls = (
  record {
    starts = record { no_visit = refl; none_remain = refl; at-end = refl; rows = refl };
    within = (λ (l : 0 < 0). absurd (omega arith), (λ l B. not-zero 2 (omega arith) B.at-end, tt));
    sent = omega arith;
    ends = record { no_visit = refl; none_remain = refl; at-end = refl; rows = refl };
  },
  (refl, (refl, refl)),
  refl,
  refl,
)
