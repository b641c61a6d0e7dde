-- An order is at most the number of columns, so 1 shifted by it has room in a position.
use native.Mathlib.Omega.{arith}
use Rattle.bits.proofs.ShiftLaws.{shifted}
use Rattle.memory.proofs.point.turns.Goals as goal

pub returns : goal.returns
returns c = shifted 16 c.args.order (omega arith)
