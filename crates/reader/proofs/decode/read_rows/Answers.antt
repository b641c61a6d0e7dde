-- The rows passed are in the memory.
use Rattle.reader.proofs.StateDecode.{rows_step}
use Rattle.reader.proofs.decode.read_rows.Goals as goal

pub loop-slot-preserved : goal.loop-slot-preserved
loop-slot-preserved c =
    let a = c.args in
    let l = c.loop-slot in
    λ s once none F m.
    let before = l.invariant s once none F m in
    rows_step s a.rows.now once none l.slot-index c.loop-slot-test.true before.0 before.1 c.read_row.ensures
