-- The rest of the division by 2 to the order.
use mathlib.Core.Path.{◌≡◌, sym, ◌∙◌}
use mathlib.Core.Bool.{true}
use Rattle.memory.specs.Reading.{state_of}
use Rattle.visits.specs.Order.{falls_order}
use Rattle.visits.proofs.OrderedState.{position_here}
use Rattle.visits.proofs.order.position_left.Goals as goal

pub returns-then-falls : goal.returns-then-falls
returns-then-falls c =
    let test : falls_order (state_of c.args.state.now) c.args.slot ≡ true = sym c.falls.ensures ∙ c.if-falls.true in
    rw (test, c.turns.ensures, c.load_position.ensures ∙ position_here c.requires.0)
