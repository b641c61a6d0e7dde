-- A buffer of another length keeps all; else it shows what the call answers.
use Rattle.std.proofs.Common.{rules}
use Rattle.driver.proofs.EnteredLaws.{entered-kept, entered-shown}
use Rattle.driver.proofs.uplink_open.Goals as goal

pub returns-then-answer-ne8 : goal.returns-then-answer-ne8
returns-then-answer-ne8 c = rw c.wrong_length.ensures (entered-kept _ _ _ _ _ c.if-answer-ne8.true)

pub returns : goal.returns
returns c = entered-shown _ _ _ _ _ _ _ c.if-answer-ne8.false c.«open».ensures c.told.ensures (search rules)
