-- A buffer of another length keeps all; else it shows what the call answers.
use mathlib.Core.Path.{refl}
use Rattle.uplink.specs.Told.{next_told}
use Rattle.driver.proofs.EnteredLaws.{entered-kept, entered-told}
use Rattle.support.proofs.plain_next.Goals as goal

pub returns-then-answer-ne28 : goal.returns-then-answer-ne28
returns-then-answer-ne28 c = rw c.wrong_length.ensures (entered-kept _ _ _ _ _ c.if-answer-ne28.true)

pub returns : goal.returns
returns c = entered-told _ _ _ _ _ next_told _ (λ w. refl) (λ t e. (refl, refl)) c.if-answer-ne28.false c.next.ensures c.told.ensures
