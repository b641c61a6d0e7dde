-- The order after a record has left, and what the code that works it out knows of the memory.
use Rattle.std.specs.Prelude.{ℕ, ◌%◌, ◌^◌, ◌≤◌, ◌≡◌, Bool, not, cond, ◌&&◌, ◌||◌, List}
use Rattle.lists.specs.Tests.{is_empty}
use Rattle.spread.specs.Limits.{columns}
use Rattle.rules.specs.State.{State, at, weights, order_of, holds, round_over, with_scan}
use Rattle.memory.specs.Layout.{bytes_of}
use Rattle.memory.specs.Reading.{state_of}
use Rattle.memory.specs.Edits.{with_order}
use Rattle.memory.specs.Fits.{Fits}
use Rattle.memory.specs.Search.{RowsWait}

-- another order, and another P
abbrev pub reordered : State → ℕ → ℕ → State
reordered s k p =
    with_scan (with_order s k) (record { position = p; column = s.scan.column; to_visit = s.scan.to_visit; visit = s.scan.visit })

abbrev pub order_of_rows : State → ℕ
order_of_rows s = order_of (weights s.channels) s.rows

-- the order falls: slot i, which has sent, has no record left, and the order is not held
abbrev pub falls_order : State → ℕ → Bool
falls_order s i = is_empty (at s.channels i).waiting && not (holds s s.rows)

-- "the order is worked out again and P becomes P mod 2^k" where it falls; a round that is over ends, "then the order is worked out afresh and P is 0" (02 §3)
abbrev pub asks_order : State → ℕ → Bool
asks_order s i = falls_order s i || round_over s

abbrev pub ordered : ℕ → State → State
ordered i s =
    let k = order_of_rows s in
    cond (asks_order s i) (reordered s k (cond (falls_order s i) (s.scan.position % 2 ^ k) 0)) s

-- the memory is of a state whose order is still to be worked out: its rows are the slots with records
pub record Unordered (b : List ℕ) : Type 0 where
  pub fits : Fits (state_of b)
  pub bytes : b ≡ bytes_of (state_of b)
  pub waits : RowsWait b
  pub order-low : (state_of b).order ≤ columns
  pub rows-low : order_of_rows (state_of b) ≤ columns
