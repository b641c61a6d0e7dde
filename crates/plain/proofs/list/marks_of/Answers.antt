-- Each turn sets one row's mark, and those before it stay.
use Rattle.std.proofs.Common.{arith}
use Rattle.memory.specs.Reading.{state_of}
use Rattle.memory.proofs.SearchLaws.{rows-length}
use Rattle.plain.proofs.MarkLaws.{marks_mask}
use Rattle.plain.proofs.list.marks_of.Goals as goal

pub returns : goal.returns
returns c =
    let l = c.loop-row in
    let b = c.args.state.now in
    marks_mask l.list (state_of b).rows c.args.mask (λ j h. l.invariant.1 j (omega (arith, rows-length b, c.row_count-row-end.ensures.0)))
