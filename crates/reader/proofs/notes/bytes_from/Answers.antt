-- Each turn adds one record's length; modulo 65,536 it does not matter when the remainder is taken.
use Rattle.std.proofs.Common.{refl, arith}
use Rattle.soundness.specs.Notes.{sum_of}
use Rattle.reader.proofs.NotesLaws.{bytes-none, bytes-turn, bytes_counted}
use Rattle.reader.proofs.notes.bytes_from.Goals as goal

pub returns-then-place-count-gt-CELLS : goal.returns-then-place-count-gt-CELLS
returns-then-place-count-gt-CELLS c =
    let a = c.args in
    bytes-none a.state.now a.place a.count c.if-place-count-gt-CELLS.true

pub loop-i-init : goal.loop-i-init
unfolding sum_of
loop-i-init c = refl

pub loop-i-preserved : goal.loop-i-preserved
loop-i-preserved c =
    let a = c.args in
    let l = c.loop-i in
    bytes-turn a.state.now a.place l.i l.sum _ l.invariant c.load_record-cell.ensures refl

pub returns : goal.returns
returns c =
    let a = c.args in
    let l = c.loop-i in
    bytes_counted a.state.now a.place a.count l.i l.sum c.if-place-count-gt-CELLS.false (omega arith) l.invariant
