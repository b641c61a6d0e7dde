-- Round sheets (02 §9): in a round in which the rows stay, the visits are the sheet of the rows' weights, in its order. Once for both editions, over moments.
-- In edition 2 the order may be held above the rows' own, and the sheet is the same.
use Prim.Native.Nat.{ℕ, ◌-◌, ◌^◌, ◌≤◌}
use mathlib.Core.Path.{◌≡◌, refl, ap, ◌∙◌}
use mathlib.Core.Bool.{false, true≢false}
use mathlib.Core.List.{List, [], ◌∷◌, map}
use native.Mathlib.Nat.{zero-add}
use native.Mathlib.Omega.{arith}
use Rattle.lists.specs.Slots.{occurs}
use Rattle.lists.specs.Tests.{is_empty}
use Rattle.lists.proofs.SlotsLaws.{occurs-same}
use Rattle.spread.specs.Round.{order_all, visits_from, round_of}
use Rattle.spread.proofs.RoundSteps.{round-held}
use Rattle.rules.specs.State.{State, weights}
use Rattle.rules.specs.Facts.{after_grant, SoundTo}
use Rattle.rules.proofs.Rows.{rows-once}
use Rattle.promises.specs.Moments.{Moment, sent_at, moments_total}
use Rattle.promises.specs.Rounds.{MomentsThroughout, MomentsRound}
use Rattle.promises.specs.Sheets.{visited_by, RowsAre, row_weights, slots_of, row_numbers, OnSheet}
use Rattle.promises.proofs.Lawful.{Lawful}
use Rattle.promises.proofs.SheetColumns.{order_sheet, sheet_numbers}
use Rattle.promises.proofs.Walking.{walk_round, walk_start}

some-row : (rs : List ℕ) → is_empty rs ≡ false → (i : ℕ) × (1 ≤ occurs i rs)
some-row [] e = absurd (true≢false e)
some-row (r ∷ rs) e = (r, rw (occurs-same r rs) (omega arith))

-- "the visits of one round with every row always waiting": the rows are asked for before every moment and at the next start. (In edition 1 a row that leaves at
-- the last moment may be what makes it a start. In edition 2 the round's end leads there and leaves the rows, so that nothing more is asked.) That each row waits,
-- that its weight stays and that the order does is proved.
pub visits_sheet : (s : State) (ms : List Moment) → SoundTo after_grant s → Lawful s ms → MomentsRound s ms → MomentsThroughout (RowsAre s.rows) s ms
    → OnSheet s (visited_by s ms)
visits_sheet s ms S law R st =
    let f = weights s.channels in
    let k = s.order in
    let (i, row) = some-row s.rows R.starts.rows in
    let above : order_all (map f s.rows) ≤ k = rw (order_sheet f s.rows) S.order-above in
    let walked : visited_by s ms ≡ slots_of s.rows (visits_from k (map f s.rows) 0 (2 ^ k - 1)) =
    walk_round k f s.rows i row 0 0 0 [] ms s law S R.within st (rw (zero-add (moments_total sent_at s ms)) R.sent) R.ends
    (walk_start {f = f} {i = i} refl (λ j h. refl) R.starts)
    in
    let slots : visited_by s ms ≡ slots_of s.rows (round_of (row_weights s)) = walked ∙ ap (slots_of s.rows) (round-held (map f s.rows) k above) in
    record { slots_are = slots; numbers_are = ap (row_numbers s.rows) slots ∙ sheet_numbers f s.rows (rows-once S) }
