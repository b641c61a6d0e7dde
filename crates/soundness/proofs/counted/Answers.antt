-- The local line holds how often each slot is found among the rows passed: a turn raises one of its bytes, which stays below the number of rows.
use Rattle.std.proofs.Common.{◌≡◌, ◌<◌, refl, arith, rules}
use Rattle.rules.specs.Numbers.{slots}
use Rattle.soundness.proofs.CheckTurns.{counts_none, counts_turn, found-le, below_at}
use Rattle.soundness.proofs.counted.Goals as goal

pub loop-k-init : goal.loop-k-init
loop-k-init c = (refl, counts_none c.args.state.now)

row_lt : (c : goal.After-from) → c.from.result < slots
row_lt c = omega (arith, below_at _ _ c.loop-k.k c.requires.1 c.loop-k-test.true)

pub bounds-seen-from : goal.bounds-seen-from
bounds-seen-from c = row_lt c

pub overflow_add-seen : goal.overflow_add-seen
overflow_add-seen c =
    let row = c.from.result in
    omega (arith, c.loop-k.invariant.1 row (row_lt c), found-le c.args.state.now row c.loop-k.k)

pub bounds-seen-from-in-loop-k : goal.bounds-seen-from-in-loop-k
bounds-seen-from-in-loop-k c = row_lt c

pub loop-k-preserved : goal.loop-k-preserved
loop-k-preserved c =
    (search rules, counts_turn _ _ c.loop-k.seen _ c.loop-k.invariant.0 c.from.ensures (row_lt c) c.loop-k.invariant.1)

pub once-requires : goal.once-requires
once-requires c = let e : c.loop-k.k ≡ c.args.n = omega arith in rw e at c.loop-k.invariant.1
