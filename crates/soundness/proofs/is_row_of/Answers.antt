-- The tests are the rule's, the second on what the callee answers.
use Rattle.soundness.proofs.is_row_of.Goals as goal

pub returns : goal.returns
returns c = rw c.in_mask.ensures
