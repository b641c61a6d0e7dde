-- At each turn the line of one row is written; its cells of the filled matrix are its weight's bits.
use Rattle.std.proofs.Common.{◌+◌, ◌<◌, drop, arith}
use Rattle.rules.specs.State.{weights}
use Rattle.memory.specs.Reading.{row_count_at, state_of}
use Rattle.memory.proofs.SearchLaws.{rows-length}
use Rattle.page.specs.Page.{row_line, row_lines}
use Rattle.page.specs.InNumbers.{cells_at, mark_in, line_in}
use Rattle.page.proofs.PutLaws.{begins, goes, ended, room_next}
use Rattle.page.proofs.PageLaws.{next-row, rows_none, line_marked}
use Rattle.page.proofs.rows.put_rows.Goals as goal

pub loop-row-init : goal.loop-row-init
loop-row-init c = begins c.args.w.now _ (omega (arith, c.requires.3))

pub put_row-requires : goal.put_row-requires
put_row-requires c =
    let a = c.args in
    let b = a.state.now in
    let r = c.loop-row.row in
    let i = c.row_at-slot.result in
    let f = weights (state_of b).channels in
    let rows = (state_of b).rows in
    let more : r < row_count_at b = omega (arith, c.row_count-row-end.ensures.0, c.loop-row-test.true) in
    let line = line_marked f rows (row_count_at b) a.matrix.now a.chosen r c.requires.1 more c.requires.2 c.row_at-slot.ensures.0 c.weight_of_row-weight.ensures in
    let here = next-row (line_in f a.chosen) rows r (omega (arith, rows-length b, more)) line c.loop-row.invariant in
    (omega (arith, c.requires.0.few, more), c.row_at-slot.ensures.1, c.requires.2, room_next (row_line i c.weight_of_row-weight.result (cells_at a.matrix.now r a.chosen.order) (mark_in a.chosen i)) (row_lines (line_in f a.chosen) (drop (r + 1) rows)) here c.requires.3)

pub loop-row-preserved : goal.loop-row-preserved
loop-row-preserved c =
    let a = c.args in
    let b = a.state.now in
    let r = c.loop-row.row in
    let f = weights (state_of b).channels in
    let rows = (state_of b).rows in
    let more : r < row_count_at b = omega (arith, c.row_count-row-end.ensures.0, c.loop-row-test.true) in
    let line = line_marked f rows (row_count_at b) a.matrix.now a.chosen r c.requires.1 more c.requires.2 c.row_at-slot.ensures.0 c.weight_of_row-weight.ensures in
    goes _ _ (next-row (line_in f a.chosen) rows r (omega (arith, rows-length b, more)) line c.loop-row.invariant) c.put_row.ensures

pub returns : goal.returns
returns c =
    let b = c.args.state.now in
    let line = line_in (weights (state_of b).channels) c.args.chosen in
    ended (rw (rows_none line (state_of b).rows c.loop-row.row (omega (arith, rows-length b, c.row_count-row-end.ensures.0, c.loop-row-test.false))) at c.loop-row.invariant)
