-- The way out is that the order fails. Past it the order is at most 12, so 2 to it can be taken; what is left is the other two rules.
use Rattle.std.proofs.Common.{not, sym, ◌∙◌}
use mathlib.Core.Bool.{and-true as and-with-true}
use Rattle.memory.specs.Point.{over_at}
use Rattle.soundness.specs.Check.{round_rule}
use Rattle.soundness.proofs.CheckWays.{order_small}
use Rattle.soundness.proofs.round_ok.Goals as goal

pub returns-then-not-order_ok : goal.returns-then-not-order_ok
unfolding round_rule
returns-then-not-order_ok c = rw (sym c.order_ok.ensures ∙ c.if-not-order_ok.true)

pub round_over-over-requires : goal.round_over-over-requires
round_over-over-requires c = order_small _ (sym c.order_ok.ensures ∙ c.if-not-order_ok.false)

pub returns : goal.returns
unfolding round_rule
returns c =
    rw (
      sym c.order_ok.ensures ∙ c.if-not-order_ok.false,
      c.edition_ok.ensures,
      c.round_over-over.ensures,
      and-with-true (not (over_at c.args.state.now)),
    )
