-- The order of a union is the greatest of the rows'.
use mathlib.Core.Path.{ap, ◌∙◌}
use Rattle.bits.specs.Order.{order}
use Rattle.rules.specs.State.{weights}
use Rattle.rules.proofs.Union.{order-union}
use Rattle.memory.specs.Reading.{state_of}
use Rattle.memory.proofs.search.order_of_rows.Goals as goal

pub returns : goal.returns
returns c =
    let s = state_of c.args.state.now in
    c.order_of.ensures ∙ ap order c.union_of_rows.ensures ∙ order-union (weights s.channels) s.rows
