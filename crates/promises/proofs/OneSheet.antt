-- Round sheets worked out, with slot 1 joined before slot 0, so that the sheet's rows are not the slots: in edition 1 with weights 2 and 1, and in edition 2 with
-- two rows of weight 1, which share the one column. All that the theorem asks for is met, and the visits are the sheet's.
use Prim.Native.Nat.{ℕ, ◌≤◌, ◌<◌}
use mathlib.Core.Path.{◌≡◌, refl}
use mathlib.Core.Logic.{inl, inr}
use mathlib.Core.List.{List, [], ◌∷◌}
use native.Mathlib.Omega.{arith}
use Rattle.bits.specs.Bit.{bit}
use Rattle.bits.specs.Order.{order, order_in}
use Rattle.bits.specs.Trailing.{trailing, trailing_in}
use Rattle.spread.specs.Sequence.{term}
use Rattle.spread.specs.Visits.{column_at}
use Rattle.spread.specs.Round.{order_all, rows_with, visits_from, round_of}
use Rattle.rules.specs.Numbers.{falling, holding, longest}
use Rattle.rules.specs.State.{cost, fresh, order_of, column_of, round_over, shared_use}
use Rattle.rules.specs.Calls.{lowest, open_call, put_call, Call, to_open, to_put, to_next, reply, step, run}
use Rattle.rules.specs.Next.{scanning, next_call}
use Rattle.promises.specs.Histories.{along}
use Rattle.promises.specs.Rounds.{total, Throughout, WithinRound, Round}
use Rattle.promises.specs.Sheets.{visited, RowsAre, row_weights, row_of, row_numbers, OnSheet}
use Rattle.promises.proofs.Promises.{sheet_in_history}
use Rattle.promises.proofs.OneRound.{between, three}

-- ---- edition 1

unfoldable crossed : List Call
crossed =
    to_open 1 ∷ to_open 2
    ∷ to_put 1 1 longest 1 ∷ to_put 0 1 longest 2 ∷ to_put 1 1 longest 3
    ∷ to_put 1 1 longest 4 ∷ to_put 0 1 longest 5 ∷ []

crossed-round : Round (run (fresh falling) crossed) three
unfolding crossed three cost bit order order_in trailing trailing_in term column_at fresh order_of column_of round_over lowest open_call put_call scanning next_call reply step run total WithinRound shared_use
crossed-round =
    record {
      starts = record { no_visit = refl; none_remain = refl; at-end = inl refl; rows = refl };
      within = (
        λ (l : 0 < 0). absurd (omega arith),
        (λ l B. between 2 1 (omega arith) (omega arith) B.at-end, (λ l B. between 2 2 (omega arith) (omega arith) B.at-end, tt)),
      );
      sent = omega arith;
      ends = record { no_visit = refl; none_remain = refl; at-end = inr refl; rows = refl };
    }

crossed-rows : Throughout (RowsAre (run (fresh falling) crossed).rows) (run (fresh falling) crossed) three
unfolding crossed three cost bit order order_in trailing trailing_in term column_at fresh order_of column_of round_over lowest open_call put_call scanning next_call reply step run Throughout shared_use
crossed-rows = (refl, (refl, (refl, refl)))

crossed_sheet : OnSheet (run (fresh falling) crossed) (along visited (run (fresh falling) crossed) three)
unfolding crossed three
crossed_sheet =
    sheet_in_history falling (omega arith, omega arith) crossed three (tt, (tt, (omega arith, (omega arith, (omega arith, (omega arith, (omega arith, tt)))))))
    (tt, (tt, (tt, tt))) crossed-round crossed-rows

-- the same by computing: slots 1, 0, 1, of the rows 1 and 0
crossed-numbers : ((run (fresh falling) crossed).rows ≡ 1 ∷ 0 ∷ []) × (row_weights (run (fresh falling) crossed) ≡ 2 ∷ 1 ∷ [])
    × (along visited (run (fresh falling) crossed) three ≡ 1 ∷ 0 ∷ 1 ∷ []) × (row_numbers (1 ∷ 0 ∷ []) (1 ∷ 0 ∷ 1 ∷ []) ≡ 0 ∷ 1 ∷ 0 ∷ [])
    × (round_of (2 ∷ 1 ∷ []) ≡ 0 ∷ 1 ∷ 0 ∷ [])
unfolding crossed three cost bit order order_in trailing trailing_in term column_at order_all rows_with visits_from round_of fresh order_of column_of round_over lowest open_call put_call scanning next_call reply step run along row_of shared_use
crossed-numbers = (refl, refl, refl, refl, refl)

-- ---- edition 2

unfoldable level : List Call
level = to_open 1 ∷ to_open 1 ∷ to_put 1 1 longest 1 ∷ to_put 0 1 longest 2 ∷ to_put 1 1 longest 3 ∷ to_put 0 1 longest 4 ∷ []

abbrev pub two_nexts : List Call
two_nexts = to_next ∷ to_next ∷ []

pub not-zero : (p : ℕ) → 1 ≤ p → p ≡ 0 → ⊥
not-zero p l e = omega arith

level-round : Round (run (fresh holding) level) two_nexts
unfolding level cost bit order order_in trailing trailing_in term column_at fresh order_of column_of round_over lowest open_call put_call scanning next_call reply step run total WithinRound shared_use
level-round =
    record {
      starts = record { no_visit = refl; none_remain = refl; at-end = refl; rows = refl };
      within = (λ (l : 0 < 0). absurd (omega arith), (λ l B. not-zero 1 (omega arith) B.at-end, tt));
      sent = omega arith;
      ends = record { no_visit = refl; none_remain = refl; at-end = refl; rows = refl };
    }

level-rows : Throughout (RowsAre (run (fresh holding) level).rows) (run (fresh holding) level) two_nexts
unfolding level cost bit order order_in trailing trailing_in term column_at fresh order_of column_of round_over lowest open_call put_call scanning next_call reply step run Throughout shared_use
level-rows = (refl, (refl, refl))

level_sheet : OnSheet (run (fresh holding) level) (along visited (run (fresh holding) level) two_nexts)
unfolding level
level_sheet =
    sheet_in_history holding (omega arith, omega arith) level two_nexts (tt, (tt, (omega arith, (omega arith, (omega arith, (omega arith, tt)))))) (tt, (tt, tt))
    level-round level-rows

-- in one scan slot 1, which joined first, comes before slot 0
level-numbers : (along visited (run (fresh holding) level) two_nexts ≡ 1 ∷ 0 ∷ []) × (row_numbers (1 ∷ 0 ∷ []) (1 ∷ 0 ∷ []) ≡ 0 ∷ 1 ∷ [])
    × (round_of (1 ∷ 1 ∷ []) ≡ 0 ∷ 1 ∷ [])
unfolding level cost bit order order_in trailing trailing_in term column_at order_all rows_with visits_from round_of fresh order_of column_of round_over lowest open_call put_call scanning next_call reply step run along row_of shared_use
level-numbers = (refl, refl, refl)
