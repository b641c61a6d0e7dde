-- A number of two bytes is 0 if both are.
use Rattle.soundness.proofs.NotesRead.{bytes-none}
use Rattle.soundness.proofs.sums.no_bytes.Goals as goal

pub returns : goal.returns
returns c = bytes-none c.args.state.now c.args.slot
