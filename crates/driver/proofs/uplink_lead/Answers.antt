-- A buffer of another length keeps all; else it shows what the call answers: the lead's bytes are those of its two halves.
use mathlib.Core.Path.{ap}
use Rattle.std.proofs.Common.{rules}
use Rattle.driver.specs.Entered.{stateless}
use Rattle.driver.proofs.WordsLaws.{lead-words}
use Rattle.driver.proofs.EnteredLaws.{entered-kept, entered-shown}
use Rattle.driver.proofs.uplink_lead.Goals as goal

pub returns-then-answer-ne8 : goal.returns-then-answer-ne8
returns-then-answer-ne8 c = rw c.wrong_length.ensures (entered-kept _ _ _ _ _ c.if-answer-ne8.true)

pub returns : goal.returns
returns c = entered-shown _ _ _ _ _ _ _ c.if-answer-ne8.false (ap stateless c.lead.ensures) c.told.ensures (search (rules, lead-words))
