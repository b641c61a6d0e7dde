-- Each field is closed, and its last cell then cleared.
use Rattle.memory.proofs.RecordEdits.{drop-steps}
use Rattle.memory.proofs.records.drop_record.Goals as goal

pub returns : goal.returns
returns c =
    let a = c.args in
    drop-steps a.state.now a.last a.place c.close_lines.ensures c.write.ensures c.close_lines-2.ensures c.write-2.ensures
