-- What the code reads of the memory is what the rules ask of its state.
use Rattle.visits.proofs.OrderedState.{falls-here}
use Rattle.visits.proofs.order.falls.Goals as goal

pub returns : goal.returns
returns c =
    rw (c.waiting_of-waiting.ensures.0, c.holds-held.ensures) (falls-here c.requires.0 c.args.slot c.requires.1)
