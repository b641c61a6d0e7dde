-- An answer of another length keeps all; else it shows what the writer answers.
use Rattle.driver.proofs.EnteredLaws.{park_kept, park-told}
use Rattle.driver.proofs.uplink_park.Goals as goal

pub returns-then-answer-ne4 : goal.returns-then-answer-ne4
returns-then-answer-ne4 c = rw c.wrong_length.ensures (park_kept _ _ _ _ c.if-answer-ne4.true)

pub returns : goal.returns
returns c = park-told _ _ _ _ _ c.if-answer-ne4.false c.park.ensures c.told.ensures
