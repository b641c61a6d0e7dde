-- What the jump finds is where the terms, taken one by one, come to; where it finds none, the round ends and position 1 has a row.
use Prim.Native.Nat.{◌^◌, ◌≤◌}
use native.Mathlib.Omega.{arith}
use lib.Pow.{pow_mono}
use Rattle.spread.specs.Limits.{columns}
use Rattle.visits.proofs.ChoiceInNumbers.{
  rows_of,
  waits_of,
  order-low,
  position-low,
  union-some,
  union-low,
  after-position,
  position_in,
  taken-within,
  taken-chosen,
  afresh-low,
  first_in,
  next-within,
  next-chosen,
}
use Rattle.visits.proofs.choose.jumped.Goals as goal

pub union_of_rows-union-requires : goal.union_of_rows-union-requires
union_of_rows-union-requires c = waits_of c.requires.0.memory

pub next_filled-requires : goal.next_filled-requires
next_filled-requires c =
    let (C, o, v, m) = c.requires in
    let e = c.union_of_rows-union.ensures in
    (union-some C o v m e, union-low C o v m e, order-low C o, position-low C o)

-- ---- in this round
pub overflow_cast-next : goal.overflow_cast-next
overflow_cast-next c =
    let (C, o, v, m) = c.requires in
    let most : 2 ^ c.args.order ≤ 2 ^ columns = pow_mono (order-low C o) in
    omega (arith, (position_in C o v m c.union_of_rows-union.ensures c.in-Some.ensures).1)

pub landed-found-requires : goal.landed-found-requires
landed-found-requires c =
    let (C, o, v, m) = c.requires in
    let (low, high) = position_in C o v m c.union_of_rows-union.ensures c.in-Some.ensures in
    (rows_of C.memory, order-low C o, low, high)

pub overflow_sub-next : goal.overflow_sub-next
overflow_sub-next c =
    let (C, o, v, m) = c.requires in
    after-position C o v m c.union_of_rows-union.ensures c.in-Some.ensures

pub first_visit-requires : goal.first_visit-requires
first_visit-requires c =
    let (C, o, v, m) = c.requires in
    (rows_of C.memory, taken-within C o v m c.union_of_rows-union.ensures c.in-Some.ensures c.landed-found.ensures)

pub returns-in-Some : goal.returns-in-Some
returns-in-Some c =
    let (C, o, v, m) = c.requires in
    taken-chosen C o v m c.union_of_rows-union.ensures c.in-Some.ensures c.landed-found.ensures c.first_visit.ensures

pub landed-found-requires-2 : goal.landed-found-requires-2
landed-found-requires-2 c =
    let (C, o, v, m) = c.requires in
    let e = c.union_of_rows-union.ensures in
    let (low, high) = first_in C o v m e c.in_default.ensures c.order_of-afresh.ensures in
    (rows_of C.memory, afresh-low C o v m e c.in_default.ensures c.order_of-afresh.ensures, low, high)

pub turns-requires : goal.turns-requires
turns-requires c = let (C, o, v, m) = c.requires in order-low C o

pub overflow_cast-afresh : goal.overflow_cast-afresh
overflow_cast-afresh c =
    let (C, o, v, m) = c.requires in
    omega (arith, afresh-low C o v m c.union_of_rows-union.ensures c.in_default.ensures c.order_of-afresh.ensures)

pub first_visit-requires-2 : goal.first_visit-requires-2
first_visit-requires-2 c =
    let (C, o, v, m) = c.requires in
    (rows_of C.memory, next-within C o v m c.union_of_rows-union.ensures c.in_default.ensures c.order_of-afresh.ensures c.landed-found-2.ensures)

pub returns : goal.returns
returns c =
    let (C, o, v, m) = c.requires in
    next-chosen C o v m c.union_of_rows-union.ensures c.in_default.ensures c.order_of-afresh.ensures c.landed-found-2.ensures
    c.turns.ensures c.first_visit-2.ensures
