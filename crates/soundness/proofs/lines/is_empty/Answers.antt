-- The bytes have no bit set if their numbers are 0.
use Rattle.soundness.proofs.NumbersRead.{empty-read}
use Rattle.soundness.proofs.lines.is_empty.Goals as goal

pub returns : goal.returns
returns c = empty-read c.args.state.now c.args.p
