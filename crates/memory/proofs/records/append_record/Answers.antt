-- The record goes into the cell where the run ends, and one more waits in its slot.
use native.Mathlib.Omega.{arith}
use Rattle.memory.proofs.AppendLaws.{bytes_appended}
use Rattle.memory.proofs.records.append_record.Goals as goal

pub returns : goal.returns
returns c =
    let a = c.args in
    λ s F e ends.
    bytes_appended a.slot a.place a.length a.reference F e c.requires.0 c.requires.1 c.requires.2 (omega arith) (omega arith) ends
    c.write.ensures c.write-2.ensures
