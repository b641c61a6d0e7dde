-- A buffer of another length keeps all; else it shows what the call answers.
use mathlib.Core.Path.{refl, ap}
use Rattle.spread.specs.Told.{term_told}
use Rattle.driver.specs.Entered.{stateless}
use Rattle.driver.proofs.EnteredLaws.{entered-kept, entered-told}
use Rattle.driver.proofs.uplink_term.Goals as goal

pub returns-then-answer-ne4 : goal.returns-then-answer-ne4
returns-then-answer-ne4 c = rw c.wrong_length.ensures (entered-kept _ _ _ _ _ c.if-answer-ne4.true)

pub returns : goal.returns
returns c = entered-told _ _ _ _ _ term_told _ (λ w. refl) (λ t e. (refl, refl)) c.if-answer-ne4.false (ap stateless c.term.ensures) c.told.ensures
