-- `spread::term` meets its contract: a position below 2^32 has less than 32 trailing zeros, and the term of what passes is by the rule.
use mathlib.Core.Path.{sym, ◌∙◌}
use native.Mathlib.Omega.{arith}
use borrow.Author.Rules.{rules}
use Rattle.bits.proofs.TrailingLaws.{trailing_lt}
use Rattle.spread.proofs.Limits.{between}
use Rattle.spread.proofs.Calls.{term-worked}
use Rattle.spread.proofs.term.Goals as goal

pub overflow_add-result : goal.overflow_add-result
overflow_add-result c =
    let p = c.args.position in
    omega (arith, c.trailing_of.ensures, trailing_lt 32 p (between 1 _ p (sym c.outside-else-outside.ensures ∙ c.if-outside-2.false)).0 (search rules))

pub returns : goal.returns
returns c =
    term-worked _ _ _ (sym c.outside.ensures ∙ c.if-outside.false) (sym c.outside-else-outside.ensures ∙ c.if-outside-2.false) c.trailing_of.ensures
