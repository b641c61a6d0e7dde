-- A buffer of another length keeps all; else it shows what the call answers.
use mathlib.Core.Path.{refl}
use Rattle.uplink.specs.Told.{close_told}
use Rattle.driver.proofs.EnteredLaws.{entered-kept, entered-told}
use Rattle.driver.proofs.uplink_close.Goals as goal

pub returns-then-answer-ne4 : goal.returns-then-answer-ne4
returns-then-answer-ne4 c = rw c.wrong_length.ensures (entered-kept _ _ _ _ _ c.if-answer-ne4.true)

pub returns : goal.returns
returns c = entered-told _ _ _ _ _ close_told _ (λ w. refl) (λ t e. (refl, refl)) c.if-answer-ne4.false c.close.ensures c.told.ensures
