-- A row of the state is a byte of the memory, and a slot.
use mathlib.Core.Path.{sym}
use Rattle.memory.proofs.SearchLaws.{rows_at}
use Rattle.memory.proofs.search.row_at.Goals as goal

pub returns : goal.returns
returns c = rw c.from.ensures (sym (rows_at _ _ c.requires.1), c.requires.0.low _ c.requires.1)
