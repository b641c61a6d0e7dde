-- Either test is the rules'.
use mathlib.Core.Path.{◌∙◌}
use Rattle.visits.proofs.OrderedState.{order-low-read, over_here}
use Rattle.visits.proofs.order.asks.Goals as goal

pub round_over-over-requires : goal.round_over-over-requires
round_over-over-requires c = order-low-read c.requires.0

pub returns : goal.returns
returns c = rw (c.falls-fallen.ensures, c.round_over-over.ensures ∙ over_here c.requires.0)
