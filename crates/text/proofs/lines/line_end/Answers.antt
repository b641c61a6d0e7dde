-- The line ends at the first line feed from the place on, or with the text.
use Rattle.text.proofs.LineLaws.{end_feed, end-past}
use Rattle.text.proofs.lines.line_end.Goals as goal

pub returns-in-Some-clause-value : goal.returns-in-Some-clause-value
returns-in-Some-clause-value c = end_feed c.args.s.now c.args.at c.in-Some.n c.in-Some.ensures

pub returns-in-None-clause-value : goal.returns-in-None-clause-value
returns-in-None-clause-value c = end-past c.args.s.now c.args.at c.requires c.in-None.ensures
