-- By whether a record waits.
use borrow.Author.Tests.{eq-eqb, ne_eqb}
use Rattle.memory.proofs.search.row_weight.Goals as goal

pub returns-then-waiting-eq0 : goal.returns-then-waiting-eq0
returns-then-waiting-eq0 c = rw (eq-eqb _ 0 c.if-waiting-eq0.true)

pub returns : goal.returns
returns c = rw (ne_eqb _ 0 c.if-waiting-eq0.false)
