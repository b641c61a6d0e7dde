-- Both numbers are read off the places that the record is read off.
use Rattle.memory.specs.Reading.{record_at}
use Rattle.memory.proofs.records.load_record.Goals as goal

pub returns : goal.returns
unfolding record_at
returns c = cc
