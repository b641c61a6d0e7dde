-- The visits of one round, in order, with every row always waiting (02 §9).
use Rattle.std.specs.Prelude.{ℕ, zero, suc, ◌+◌, ◌-◌, ◌^◌, max, List, [], ◌∷◌, ◌++◌, eqb}
use Rattle.lists.specs.Slots.{keep_if}
use Rattle.bits.specs.Bit.{bit}
use Rattle.bits.specs.Order.{order}
use Rattle.spread.specs.Visits.{column_at}

-- The weights stand "in joining order": a row's number is its place among them. Their order is that of the heaviest.
unfoldable pub order_all : List ℕ → ℕ
order_all [] = 0
order_all (w ∷ ws) = max (order w) (order_all ws)

-- "Column c is the rows, in row order, whose weight has bit c": as row numbers, of which the first weight's is r
unfoldable pub rows_with : ℕ → ℕ → List ℕ → List ℕ
rows_with c r [] = []
rows_with c r (w ∷ ws) = keep_if (eqb (bit c w) 1) r (rows_with c (suc r) ws)

-- the rows visited at the n positions after p of order k
unfoldable pub visits_from : ℕ → List ℕ → ℕ → ℕ → List ℕ
visits_from k ws p zero = []
visits_from k ws p (suc n) = rows_with (column_at k (suc p)) 0 ws ++ visits_from k ws (suc p) n

-- "the visits of one round with every row always waiting", "rows [..] counted from 0"
unfoldable pub round_of : List ℕ → List ℕ
round_of ws = let k = order_all ws in visits_from k ws 0 (2 ^ k - 1)

-- the sum of the weights
unfoldable pub sum : List ℕ → ℕ
sum [] = 0
sum (w ∷ ws) = w + sum ws
