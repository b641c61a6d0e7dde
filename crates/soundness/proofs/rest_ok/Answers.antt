-- Each way out is what the rules looked at so far give.
use Rattle.std.proofs.Common.{sym}
use Rattle.soundness.specs.Check.{rest_rule}
use Rattle.soundness.proofs.rest_ok.Goals as goal

pub returns-else-behind : goal.returns-else-behind
unfolding rest_rule
returns-else-behind c = rw (sym c.requires.0, sym c.behind.ensures, c.if-behind.false)

pub returns-else-rows : goal.returns-else-rows
unfolding rest_rule
returns-else-rows c = rw (sym c.requires.0, sym c.behind.ensures, c.if-behind.true, sym c.row_count.ensures.0, sym c.rows.ensures, c.if-rows.false)

pub returns-then-rows : goal.returns-then-rows
unfolding rest_rule
returns-then-rows c =
    rw (sym c.requires.0, sym c.behind.ensures, c.if-behind.true, sym c.row_count.ensures.0, sym c.rows.ensures, c.if-rows.true, c.scan.ensures)
