-- Edition 2, computed: where it goes another way than edition 1's corners, and a mixed run. A send is written: slot, start mark, terms taken, then P, the noted
-- column and the visit after it. Some slips keep a state sound and every promise, and show only here: in runs that empty, that have a visit open at 2^k - 1, or
-- slots still to visit there.
use Prim.Native.Nat.{ℕ}
use mathlib.Core.Path.{◌≡◌, refl}
use mathlib.Core.Bool.{true, false}
use mathlib.Core.List.{List, [], ◌∷◌, ◌++◌}
use Rattle.bits.specs.Bit.{bit}
use Rattle.bits.specs.Order.{order}
use Rattle.bits.specs.Trailing.{trailing}
use Rattle.spread.specs.Sequence.{term}
use Rattle.spread.specs.Visits.{column_at}
use Rattle.answers.specs.Answer.{number}
use Rattle.rules.specs.Numbers.{longest}
use Rattle.rules.specs.State.{State, fresh, cost, round_over, order_of, column_of, shared_use}
use Rattle.rules.specs.Sound.{sound}
use Rattle.rules.specs.Calls.{lowest, open_call, put_call, close_call, start_call, Call, to_open, to_put, to_close, to_next, reply, step, run}
use Rattle.rules.specs.Next.{scanning, next_call}
use Rattle.rules.specs.Starred.{fill}
use Rattle.rules.proofs.Said.{answers, sent}

-- the heaviest row leaves with slot 2 still to visit: order and P are held; the round ends inside the call of the seventh send, and after the last
held-order : sent 9 (run (fresh 2) (to_open 5 ∷ to_open 2 ∷ to_open 1 ∷ fill 0 1 longest 3 ++ fill 1 1 longest 5 ++ fill 2 1 longest 5))
    ≡ (0 ∷ 1 ∷ 1 ∷ 1 ∷ 0 ∷ 0 ∷ [])
    ∷ (1 ∷ 1 ∷ 1 ∷ 2 ∷ 0 ∷ 0 ∷ [])
    ∷ (0 ∷ 1 ∷ 1 ∷ 3 ∷ 0 ∷ 0 ∷ [])
    ∷ (0 ∷ 1 ∷ 1 ∷ 4 ∷ 0 ∷ 0 ∷ [])
    ∷ (2 ∷ 1 ∷ 0 ∷ 4 ∷ 0 ∷ 0 ∷ [])
    ∷ (1 ∷ 1 ∷ 2 ∷ 6 ∷ 0 ∷ 0 ∷ [])
    ∷ (1 ∷ 1 ∷ 2 ∷ 1 ∷ 0 ∷ 0 ∷ [])
    ∷ (2 ∷ 1 ∷ 1 ∷ 2 ∷ 0 ∷ 0 ∷ [])
    ∷ (1 ∷ 1 ∷ 1 ∷ 0 ∷ 0 ∷ 0 ∷ [])
    ∷ []
unfolding sent fill run step reply fresh open_call put_call next_call lowest scanning order_of column_of cost round_over column_at term trailing bit order shared_use
held-order = refl

-- the third send's call takes seven empty terms, ends the round, starts the next, and ends that one too: two starts and a whole round in one call
two-starts : sent 5 (run (fresh 2) (to_open 8 ∷ to_open 1 ∷ fill 0 1 longest 1 ++ fill 1 1 longest 4))
    ≡ (0 ∷ 1 ∷ 1 ∷ 1 ∷ 0 ∷ 0 ∷ [])
    ∷ (1 ∷ 1 ∷ 7 ∷ 8 ∷ 0 ∷ 0 ∷ [])
    ∷ (1 ∷ 1 ∷ 8 ∷ 0 ∷ 0 ∷ 0 ∷ [])
    ∷ (1 ∷ 1 ∷ 1 ∷ 0 ∷ 0 ∷ 0 ∷ [])
    ∷ (1 ∷ 1 ∷ 1 ∷ 0 ∷ 0 ∷ 0 ∷ [])
    ∷ []
unfolding sent fill run step reply fresh open_call put_call next_call lowest scanning order_of column_of cost round_over column_at term trailing bit order shared_use
two-starts = refl

-- at the last position no round ends in an open visit (costs of 300), nor with slots still to visit
ends-after-visits : (sent 4 (run (fresh 2) (to_open 1 ∷ fill 0 1 290 4))
    ≡ (0 ∷ 1 ∷ 1 ∷ 1 ∷ 0 ∷ 1 ∷ []) ∷ (0 ∷ 0 ∷ 0 ∷ 1 ∷ 0 ∷ 1 ∷ []) ∷ (0 ∷ 0 ∷ 0 ∷ 0 ∷ 0 ∷ 0 ∷ []) ∷ (0 ∷ 1 ∷ 1 ∷ 0 ∷ 0 ∷ 0 ∷ []) ∷ [])
    × (sent 4 (run (fresh 2) (to_open 1 ∷ to_open 1 ∷ fill 0 1 longest 2 ++ fill 1 1 longest 2))
    ≡ (0 ∷ 1 ∷ 1 ∷ 1 ∷ 0 ∷ 0 ∷ []) ∷ (1 ∷ 1 ∷ 0 ∷ 0 ∷ 0 ∷ 0 ∷ []) ∷ (0 ∷ 1 ∷ 1 ∷ 1 ∷ 0 ∷ 0 ∷ []) ∷ (1 ∷ 1 ∷ 0 ∷ 0 ∷ 0 ∷ 0 ∷ []) ∷ [])
unfolding sent fill run step reply fresh open_call put_call next_call lowest scanning order_of column_of cost round_over column_at term trailing bit order shared_use
ends-after-visits = (refl, refl)

-- order, P and column after some calls
abbrev place : State → List ℕ
place s = s.order ∷ s.scan.position ∷ s.scan.column ∷ []

-- in mid-round the last row leaves: order and P are 0 at once
emptied-at-once : place (run (fresh 2) (to_open 9 ∷ fill 0 1 longest 2 ++ to_next ∷ [])) ≡ 4 ∷ 1 ∷ 0 ∷ []
    × (place (run (fresh 2) (to_open 9 ∷ fill 0 1 longest 2 ++ to_next ∷ to_next ∷ [])) ≡ 0 ∷ 0 ∷ 0 ∷ [])
unfolding fill run step reply fresh open_call put_call next_call lowest scanning order_of column_of cost round_over column_at term trailing bit order shared_use
emptied-at-once = (refl, refl)

-- at 2^k - 1 with a slot still to visit the order rises: position 2^k comes next, with no round's end
rises-at-end : sent 3 (run (fresh 2) (to_open 1 ∷ to_open 1 ∷ to_open 2 ∷ fill 0 1 longest 2 ++ fill 1 1 longest 2 ++ to_next ∷ fill 2 1 longest 2))
    ≡ (1 ∷ 1 ∷ 0 ∷ 1 ∷ 0 ∷ 0 ∷ []) ∷ (0 ∷ 1 ∷ 1 ∷ 2 ∷ 0 ∷ 0 ∷ []) ∷ (1 ∷ 1 ∷ 0 ∷ 2 ∷ 0 ∷ 0 ∷ []) ∷ []
unfolding sent fill run step reply fresh open_call put_call next_call lowest scanning order_of column_of cost round_over column_at term trailing bit order shared_use
rises-at-end = refl

-- "edition not 1 or 2"
editions_refused : (number (start_call 0 (fresh 1)) ≡ 12) × (number (start_call 1 (fresh 2)) ≡ 0) × (number (start_call 2 (fresh 1)) ≡ 0) × (number (start_call 3 (fresh 2)) ≡ 12)
unfolding start_call fresh
editions_refused = (refl, refl, refl, refl)

-- what soundness asks of the edition, and of an order that is held: 0 and 3 are none; with a row of weight 1 an order of 12 is sound and 13 is not, and P is the
-- last only in an open visit
abbrev holding-at : ℕ → ℕ → State
holding-at k p =
    let s = run (fresh 2) (to_open 1 ∷ fill 0 1 longest 2) in
    record {
      edition = s.edition;
      channels = s.channels;
      rows = s.rows;
      order = k;
      scan = record { position = p; column = 0; to_visit = []; visit = s.scan.visit };
      parked = s.parked;
    }

sound-held : (sound (fresh 0) ≡ false) × (sound (fresh 1) ≡ true) × (sound (fresh 2) ≡ true) × (sound (fresh 3) ≡ false)
    × (sound (holding-at 12 4094) ≡ true) × (sound (holding-at 12 4095) ≡ false) × (sound (holding-at 13 0) ≡ false) × (sound (holding-at 0 0) ≡ false)
unfolding fill run step reply fresh sound open_call put_call lowest order_of column_of cost round_over bit order shared_use
sound-held = (refl, refl, refl, refl, refl, refl, refl, refl)

-- a mixed run, as an independent scheduler has it
calls : List Call
calls =
    to_open 6 ∷ to_open 17 ∷ to_open 1 ∷ to_next ∷ to_next ∷ to_open 1 ∷ to_put 1 1 90 1 ∷ to_put 1 1 90 2 ∷ to_put 1 1 1014 3 ∷ to_open 16
    ∷ to_next ∷ to_put 0 1 590 4 ∷ to_next ∷ to_next ∷ to_next ∷ to_next
    ∷ to_put 3 1 1014 5 ∷ to_put 2 1 1014 6 ∷ to_put 0 1 590 7 ∷ to_put 2 1 90 8 ∷ to_next
    ∷ to_put 4 1 1014 9 ∷ to_put 1 1 1014 10 ∷ to_next ∷ to_next ∷ to_next
    ∷ to_close 4 1 ∷ to_put 0 1 90 11 ∷ to_put 3 1 1014 12 ∷ to_close 2 1 ∷ to_next ∷ to_next ∷ to_next ∷ to_put 1 1 590 13
    ∷ []

mixed : answers (fresh 2) calls
    ≡ (0 ∷ 1 ∷ []) ∷ (1 ∷ 1 ∷ []) ∷ (2 ∷ 1 ∷ []) ∷ (8 ∷ []) ∷ (8 ∷ []) ∷ (3 ∷ 1 ∷ []) ∷ (0 ∷ 1 ∷ []) ∷ (1 ∷ 2 ∷ []) ∷ (2 ∷ 3 ∷ []) ∷ (4 ∷ 1 ∷ [])
    ∷ (1 ∷ 1 ∷ 90 ∷ 1 ∷ 0 ∷ 1 ∷ 1 ∷ []) ∷ (0 ∷ 1 ∷ []) ∷ (1 ∷ 1 ∷ 90 ∷ 2 ∷ 1 ∷ 0 ∷ 0 ∷ []) ∷ (1 ∷ 1 ∷ 1014 ∷ 3 ∷ 2 ∷ 1 ∷ 2 ∷ []) ∷ (0 ∷ 1 ∷ 590 ∷ 4 ∷ 0 ∷ 1 ∷ 1 ∷ []) ∷ (8 ∷ [])
    ∷ (0 ∷ 1 ∷ []) ∷ (0 ∷ 1 ∷ []) ∷ (1 ∷ 1 ∷ []) ∷ (1 ∷ 2 ∷ []) ∷ (0 ∷ 1 ∷ 590 ∷ 7 ∷ 1 ∷ 1 ∷ 1 ∷ [])
    ∷ (0 ∷ 1 ∷ []) ∷ (3 ∷ 1 ∷ []) ∷ (4 ∷ 1 ∷ 1014 ∷ 9 ∷ 0 ∷ 1 ∷ 2 ∷ []) ∷ (1 ∷ 1 ∷ 1014 ∷ 10 ∷ 3 ∷ 1 ∷ 0 ∷ []) ∷ (3 ∷ 1 ∷ 1014 ∷ 5 ∷ 0 ∷ 1 ∷ 13 ∷ [])
    ∷ (1 ∷ []) ∷ (2 ∷ 1 ∷ []) ∷ (1 ∷ 1 ∷ []) ∷ (0 ∷ []) ∷ (2 ∷ 1 ∷ 1014 ∷ 6 ∷ 0 ∷ 1 ∷ 0 ∷ []) ∷ (0 ∷ 1 ∷ 90 ∷ 11 ∷ 2 ∷ 1 ∷ 4 ∷ []) ∷ (2 ∷ 1 ∷ 90 ∷ 8 ∷ 1 ∷ 1 ∷ 12 ∷ []) ∷ (4 ∷ 1 ∷ [])
    ∷ []
unfolding calls answers step reply fresh open_call put_call close_call next_call lowest scanning order_of column_of cost round_over column_at term trailing bit order shared_use
mixed = refl

mixed-place : place (run (fresh 2) calls) ≡ 5 ∷ 1 ∷ 0 ∷ []
unfolding calls run step reply fresh open_call put_call close_call next_call lowest scanning order_of column_of cost round_over column_at term trailing bit order shared_use
mixed-place = refl
