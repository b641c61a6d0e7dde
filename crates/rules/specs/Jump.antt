-- The scan in one jump, for the engine and in both editions: from the union of the rows' weights, at most two positions are looked at before the round's
-- end. (proofs/Jump shows that it is the scan of specs/Next, the terms taken included.)
use Rattle.std.specs.Prelude.{ℕ, ◌-◌, ◌^◌, List, [], ◌∷◌, Option as CodeOption, Some, None}
use Rattle.std.proofs.Math.Option.{Option, none}
use Rattle.std.specs.Int.Bits.{bit_or}
use Rattle.spread.specs.Visits.{column_at}
use Rattle.spread.specs.Jump.{jump}
use Rattle.rules.specs.State.{State, weights, column_of, with_scan}
use Rattle.rules.specs.Next.{noted, round_ended, Chosen, start_first}

-- the union of the rows' weights: bit c is set if column c has a row
unfoldable pub union_of : (ℕ → ℕ) → List ℕ → ℕ
union_of f [] = 0
union_of f (r ∷ rs) = bit_or (f r) (union_of f rs)

-- the state with the term at position p taken last
abbrev pub landed : State → ℕ → State
landed s p =
    let c = column_at s.order p in
    let found = column_of (weights s.channels) s.rows c in
    with_scan s (record { position = p; column = noted found c; to_visit = found; visit = s.scan.visit })

-- the first visit there, n terms having been taken
abbrev pub visiting : ℕ → State → Option Chosen
visiting n s = start_first s.scan.to_visit n s none

-- a position of this round, or position 1 of the next (in edition 1 the order worked out afresh is the order)
abbrev pub jumped : CodeOption ℕ → State → Option Chosen
jumped (Some t) s = visiting (t - s.scan.position) (landed s t)
jumped None s = visiting (2 ^ s.order - s.scan.position) (landed (round_ended s) 1)

unfoldable pub jumping : State → Option Chosen
jumping s = jumped (jump s.order (union_of (weights s.channels) s.rows) s.scan.position) s
