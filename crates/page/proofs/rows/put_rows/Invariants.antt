-- At each turn the line of one row is written.
use Rattle.std.proofs.Common.{drop}
use Rattle.rules.specs.State.{weights}
use Rattle.memory.specs.Reading.{state_of}
use Rattle.page.specs.Page.{row_lines}
use Rattle.page.specs.InNumbers.{line_in}
use Rattle.page.proofs.PutLaws.{Going}
use Rattle.page.proofs.rows.put_rows.Given as goal

abbrev pub invariant-loop-row : goal.invariant-loop-row
invariant-loop-row l =
    Going l.fn.w (row_lines (line_in (weights (state_of l.state).channels) l.chosen) (state_of l.state).rows)
    (row_lines (line_in (weights (state_of l.state).channels) l.chosen) (drop l.row (state_of l.state).rows)) l.w
