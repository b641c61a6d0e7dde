-- The union over the slots in which records wait is the rows'.
use mathlib.Core.Path.{◌∙◌}
use Rattle.memory.proofs.UnionOfRows.{union-read}
use Rattle.memory.proofs.search.union_of_rows.Goals as goal

pub returns : goal.returns
returns c = c.from.ensures ∙ c.union_of.ensures ∙ union-read c.requires
