-- Whether there is a first mark tells whether a row is listed.
use Rattle.std.proofs.Common.{sym, ◌∙◌}
use Rattle.memory.specs.Reading.{state_of}
use Rattle.memory.proofs.SearchLaws.{rows-length}
use Rattle.plain.proofs.MarkLaws.{noted_some, noted_none}
use Rattle.plain.proofs.choose.noted.Goals as goal

pub returns-then-is_some : goal.returns-then-is_some
returns-then-is_some c =
    let b = c.args.state.now in
    let n = c.row_count in
    noted_some c.args.list.now (state_of b).rows n.result (rows-length b ∙ sym n.ensures.0) c.first_marked.result c.first_marked.ensures (sym c.is_some.ensures ∙ c.if-is_some.true) c.args.column

pub returns : goal.returns
returns c =
    let b = c.args.state.now in
    let n = c.row_count in
    noted_none c.args.list.now (state_of b).rows n.result (rows-length b ∙ sym n.ensures.0) c.first_marked.result c.first_marked.ensures (sym c.is_some.ensures ∙ c.if-is_some.false) c.args.column
