-- The two refusals; then what the walk found, and whether the list ends there.
use mathlib.Core.Path.{sym, ◌∙◌}
use native.Mathlib.Omega.{arith}
use Rattle.sheet.proofs.WeightLaws.{order_small}
use Rattle.sheet.proofs.Sheets.{named_small}
use Rattle.sheet.proofs.Checking.{says_too_many, says-bad, says-wrong, says-right, says-longer}
use Rattle.sheet.proofs.check.Goals as goal

pub returns-then-weights-gt-ROWS : goal.returns-then-weights-gt-ROWS
returns-then-weights-gt-ROWS c = says_too_many _ _ c.if-weights-gt-ROWS.true

pub returns-then-any_bad : goal.returns-then-any_bad
returns-then-any_bad c = says-bad _ _ c.if-weights-gt-ROWS.false (sym c.any_bad.ensures ∙ c.if-any_bad.true)

pub round-requires : goal.round-requires
round-requires c = (c.if-weights-gt-ROWS.false, order_small _ (sym c.any_bad.ensures ∙ c.if-any_bad.false))

pub returns-in-Ok : goal.returns-in-Ok
returns-in-Ok c =
    says-right _ _ c.if-weights-gt-ROWS.false (sym c.any_bad.ensures ∙ c.if-any_bad.false) _ (sym c.in-Ok.is ∙ c.round.ensures) c.if-place-rows.true

pub returns-in-Ok-2 : goal.returns-in-Ok-2
returns-in-Ok-2 c =
    says-longer _ _ c.if-weights-gt-ROWS.false (sym c.any_bad.ensures ∙ c.if-any_bad.false) _ (sym c.in-Ok.is ∙ c.round.ensures) c.if-place-rows.false

pub returns-in-Err : goal.returns-in-Err
returns-in-Err c =
    says-wrong _ _ c.if-weights-gt-ROWS.false (sym c.any_bad.ensures ∙ c.if-any_bad.false) _ (sym c.in-Err.is ∙ c.round.ensures)

pub overflow_cast-result : goal.overflow_cast-result
overflow_cast-result c = omega (arith, named_small _ _ _ (sym (returns-in-Ok-2 c)))

pub overflow_cast-result-in-Err : goal.overflow_cast-result-in-Err
overflow_cast-result-in-Err c = omega (arith, named_small _ _ _ (sym (returns-in-Err c)))
