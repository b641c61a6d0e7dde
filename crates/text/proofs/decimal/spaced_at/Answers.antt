-- A number stands after one space.
use Rattle.std.proofs.Common.{◌∙◌}
use Rattle.text.proofs.PlaceLaws.{spaced-past, spaced-other, spaced-number}
use Rattle.text.proofs.decimal.spaced_at.Goals as goal

pub returns-in_err-get : goal.returns-in_err-get
returns-in_err-get c = c.from_residual.ensures ∙ spaced-past c.args.s.now c.args.at c.in_err-get.ensures.lookup.0

pub returns-then-branch-ne32 : goal.returns-then-branch-ne32
returns-then-branch-ne32 c =
    let got = c.in_ok-get.ensures.lookup in
    spaced-other c.args.s.now c.args.at _ _ got.0 got.1 c.if-branch-ne32.true

pub returns : goal.returns
returns c =
    let got = c.in_ok-get.ensures.lookup in
    c.decimal_at.ensures ∙ spaced-number c.args.s.now c.args.at _ _ got.0 got.1 c.if-branch-ne32.false
