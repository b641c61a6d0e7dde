-- The slot goes behind the last row, and the number of rows is one higher.
use native.Mathlib.Omega.{arith}
use Rattle.memory.proofs.RowEdits.{bytes-joined}
use Rattle.memory.proofs.rows.join_row.Goals as goal

pub returns : goal.returns
returns c =
    let a = c.args in
    λ s F e none. bytes-joined a.state.now a.slot c.row_count-count.result F e c.row_count-count.ensures.0 (omega arith) none
