-- The comparison is the rule.
use Rattle.soundness.specs.Check.{pool_rule}
use Rattle.soundness.proofs.pool.Goals as goal

pub returns : goal.returns
unfolding pool_rule
returns c = rw c.shared_use.ensures
