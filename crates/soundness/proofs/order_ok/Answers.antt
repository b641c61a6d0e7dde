-- The tests are the rule's, on what the callees answer.
use mathlib.Core.Bool.{and-true as and-with-true}
use Rattle.std.proofs.Common.{leb}
use Rattle.bits.specs.Order.{order}
use Rattle.memory.specs.Names as the
use Rattle.memory.specs.Reading.{number_in, byte_in, state_of}
use Rattle.soundness.specs.Check.{order_rule}
use Rattle.soundness.proofs.order_ok.Goals as goal

pub returns : goal.returns
unfolding order_rule state_of
returns c =
    let b = c.args.state.now in
    rw (
      c.holds-held.ensures,
      c.order_of-used.ensures,
      c.order_of-least.ensures,
      c.union_of-all.ensures,
      c.load_position-position.ensures,
      c.load_order-order.ensures,
      and-with-true (leb (order (number_in the.position b 0)) (byte_in the.order b 0)),
    )
