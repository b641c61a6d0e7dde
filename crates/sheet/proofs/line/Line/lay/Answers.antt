-- What stands in the line and what is still to come are the column.
use Prim.Native.Nat.{◌≤◌}
use native.Mathlib.Omega.{arith}
use lib.ListN.{get_or, length-set}
use Rattle.bits.proofs.BitLaws.{bit-lt}
use Rattle.sheet.proofs.LinesLaws.{line-turn, line-end}
use Rattle.sheet.proofs.line.Line.lay.Goals as goal

few : (c : goal.After-in_column-count) → c.in_column-count.result ≤ 1
few c = omega (arith, c.in_column-count.ensures, bit-lt c.args.column (get_or c.args.weights.now c.loop-row.row 0))

pub overflow_add-count : goal.overflow_add-count
overflow_add-count c = omega (arith, few c)

pub loop-row-preserved : goal.loop-row-preserved
loop-row-preserved c =
    let l = c.loop-row in (
      omega (arith, few c),
      simp length-set l.invariant.1,
      rw c.in_column-count.ensures (line-turn c.args.column l.row l.count c.args.weights.now l.self.rows c.loop-row-test.true (omega arith) l.invariant.2),
    )

pub returns : goal.returns
returns c = line-end _ _ _ _ _ c.loop-row-test.false c.loop-row.invariant.2
