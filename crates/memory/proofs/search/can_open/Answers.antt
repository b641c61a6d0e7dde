-- The tests of the two fields are those of the channel there.
use Rattle.memory.specs.Reading.{channel_at}
use Rattle.memory.proofs.SearchLaws.{free-kind}
use Rattle.memory.proofs.search.can_open.Goals as goal

pub returns : goal.returns
unfolding channel_at
returns c = rw (free-kind, c.read-ticket.ensures)
