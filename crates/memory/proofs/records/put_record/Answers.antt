-- Each field is opened and then written.
use Rattle.memory.proofs.RecordEdits.{put-steps}
use Rattle.memory.proofs.records.put_record.Goals as goal

pub returns : goal.returns
returns c =
    let a = c.args in
    put-steps a.state.now a.last a.place a.length a.reference c.open_lines.ensures c.write.ensures c.open_lines-2.ensures
    c.write-2.ensures
