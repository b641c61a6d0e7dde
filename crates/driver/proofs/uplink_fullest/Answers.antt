-- A buffer of another length keeps all; else it shows what the call answers: its numbers are the list's, zeros behind the last.
use mathlib.Core.Path.{refl, sym, ap, subst}
use Rattle.uplink.specs.Told.{fullest_told, ZerosBehind}
use Rattle.driver.specs.Words.{words}
use Rattle.driver.proofs.EnteredLaws.{entered-kept, entered-told}
use Rattle.driver.proofs.uplink_fullest.Goals as goal

pub returns-then-answer-ne44 : goal.returns-then-answer-ne44
returns-then-answer-ne44 c = rw c.wrong_length.ensures (entered-kept _ _ _ _ _ c.if-answer-ne44.true)

pub returns : goal.returns
returns c =
    let (left, behind) = c.fullest.ensures in
    entered-told _ _ _ _ _ fullest_told _ (λ w. refl) (λ t e. (refl, ap words (sym (subst ZerosBehind e behind)))) c.if-answer-ne44.false left c.told.ensures
