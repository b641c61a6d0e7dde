-- The matrix is that of the memory, and the table S(12).
use Rattle.visits.proofs.ChoiceInNumbers.{rows_of}
use Rattle.plain.proofs.choose.by_terms.Goals as goal

pub fill-requires : goal.fill-requires
fill-requires c = rows_of c.requires.memory

pub column_visited-requires : goal.column_visited-requires
column_visited-requires c = (rows_of c.requires.memory, c.fill.ensures, c.column_found-found.ensures)
