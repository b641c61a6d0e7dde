-- The rows behind the slot move up, and the number of rows is one lower.
use native.Mathlib.Omega.{arith}
use Rattle.memory.proofs.RowEdits.{bytes-gone}
use Rattle.memory.proofs.rows.leave_row.Goals as goal

pub returns : goal.returns
returns c =
    let count = c.row_count-count in
    let place = c.place_of-place in
    let a = c.args in
    λ s F e.
    rw c.slide_down.ensures
    (bytes-gone a.state.now a.slot count.result F e count.ensures.0 place.result (omega arith) place.ensures.1)
