-- Each way out is the same way of the rules' choice, by what was looked at.
use Rattle.visits.proofs.ChoiceInNumbers.{rows_of, first-within, no_term}
use Rattle.visits.proofs.choose.choose.Goals as goal

pub first_visit-requires : goal.first_visit-requires
first_visit-requires c =
    let C = c.requires in
    (rows_of C.memory, first-within C c.load_order-order.ensures c.if-scan-ne0.false c.if-scan-ne0-2.true)

pub returns-then-scan-ne0-2 : goal.returns-then-scan-ne0-2
returns-then-scan-ne0-2 c = no_term c.requires c.load_order-order.ensures c.if-scan-ne0.false c.if-scan-ne0-2.true c.first_visit.ensures
