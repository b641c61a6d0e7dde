-- At each turn the highest column that is left is written.
use Rattle.std.proofs.Common.{List, ℕ, ◌-◌, arith}
use Rattle.plain.specs.Matrix.{cell}
use Rattle.page.specs.Page.{cell_text}
use Rattle.page.proofs.PutLaws.{begins, room_next, goes, ended}
use Rattle.page.proofs.PageLaws.{down-next, down-none}
use Rattle.page.proofs.rows.put_cells.Goals as goal

pub loop-column-init : goal.loop-column-init
loop-column-init c = begins c.args.w.now _ (omega (arith, c.requires.2))

pub put_cell-requires : goal.put_cell-requires
put_cell-requires c =
    let l = c.loop-column in
    let f : ℕ → List ℕ = λ k. cell_text (cell c.args.matrix.now k c.args.row) in
    room_next (f (l.column - 1)) _ (rw (down-next f l.column (omega arith)) at l.invariant) c.requires.2

pub loop-column-preserved : goal.loop-column-preserved
loop-column-preserved c =
    let l = c.loop-column in
    let f : ℕ → List ℕ = λ k. cell_text (cell c.args.matrix.now k c.args.row) in
    goes (f (l.column - 1)) _ (rw (down-next f l.column (omega arith)) at l.invariant) c.put_cell.ensures

pub returns : goal.returns
returns c =
    let f : ℕ → List ℕ = λ k. cell_text (cell c.args.matrix.now k c.args.row) in
    ended (rw (down-none f c.loop-column.column (omega arith)) at c.loop-column.invariant)
