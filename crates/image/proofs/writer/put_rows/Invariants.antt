-- At each turn the rows passed are written.
use Rattle.std.proofs.Common.{take}
use Rattle.octets.specs.Wrote.{Wrote}
use Rattle.image.proofs.writer.put_rows.Given as goal

abbrev pub invariant-loop-row : goal.invariant-loop-row
invariant-loop-row l = Wrote l.fn.w (take l.row-index l.rows) l.w
