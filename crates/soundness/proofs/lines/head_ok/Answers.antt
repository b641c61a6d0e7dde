-- Tests of the bytes are tests of the numbers read.
use Rattle.std.proofs.Common.{arith}
use Rattle.soundness.proofs.NumbersRead.{head-read}
use Rattle.soundness.proofs.lines.head_ok.Goals as goal

pub returns : goal.returns
returns c = head-read c.args.state.now c.args.slot (omega arith)
