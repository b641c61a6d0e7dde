-- By cases on whether a record waits.
use Rattle.soundness.proofs.ByteTests.{once-law}
use Rattle.soundness.proofs.once_ok.Goals as goal

pub returns : goal.returns
returns c = once-law c.args.seen c.args.waiting
