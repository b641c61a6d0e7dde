-- A buffer of another length keeps all; else it shows what the call answers.
use mathlib.Core.Path.{refl}
use Rattle.uplink.specs.Told.{ask_told}
use Rattle.driver.proofs.EnteredLaws.{entered-kept, entered-told}
use Rattle.driver.proofs.uplink_ask.Goals as goal

pub returns-then-answer-ne20 : goal.returns-then-answer-ne20
returns-then-answer-ne20 c = rw c.wrong_length.ensures (entered-kept _ _ _ _ _ c.if-answer-ne20.true)

pub returns : goal.returns
returns c = entered-told _ _ _ _ _ ask_told _ (λ w. refl) (λ t e. (refl, refl)) c.if-answer-ne20.false c.ask.ensures c.told.ensures
