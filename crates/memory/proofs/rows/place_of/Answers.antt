-- No row before k is the slot, so the slot, which is a row, is found.
use native.Mathlib.Omega.{arith}
use borrow.Author.Count.{below_none, below_more}
use Rattle.memory.specs.Names as the
use Rattle.memory.specs.Reading.{byte_in, row_count_at}
use Rattle.memory.proofs.RowEdits.{occurs_nowhere}
use Rattle.memory.proofs.rows.place_of.Goals as goal

pub loop-k-init : goal.loop-k-init
loop-k-init c = below_none _

pub loop-k-preserved : goal.loop-k-preserved
loop-k-preserved c = below_more _ _ c.loop-k.invariant c.if-state-k.false

pub returns : goal.returns
returns c =
    let a = c.args in
    let b = a.state.now in
    absurd (omega (arith, c.requires, c.loop-k-test.false, c.row_count-count.ensures.0, occurs_nowhere (row_count_at b) (byte_in the.rows b) a.slot (λ k h. c.loop-k.invariant k (omega (arith, h, c.loop-k-test.false, c.row_count-count.ensures.0)))))
