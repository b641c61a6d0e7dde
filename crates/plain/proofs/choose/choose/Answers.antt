-- Each way out is the same way of the rules' choice, by what was looked at.
use Rattle.std.proofs.Common.{sym, ◌∙◌, arith}
use Rattle.memory.specs.Reading.{state_of}
use Rattle.memory.proofs.SearchLaws.{rows-length}
use Rattle.visits.proofs.ChoiceInNumbers.{rows_of, visit_open}
use Rattle.plain.proofs.ChoiceLaws.{first-chosen, none-begins}
use Rattle.plain.proofs.MarkLaws.{marks_none}
use Rattle.plain.proofs.choose.choose.Goals as goal

pub returns-then-scan-ne0 : goal.returns-then-scan-ne0
returns-then-scan-ne0 c = rw c.from.ensures (visit_open c.requires c.load_order-order.ensures c.if-scan-ne0.true)

pub marks_of-list-requires : goal.marks_of-list-requires
marks_of-list-requires c = rows_of c.requires.memory

pub first_marked-requires : goal.first_marked-requires
first_marked-requires c = omega (arith, (rows_of c.requires.memory).few, c.row_count.ensures.0)

pub first_visit-requires : goal.first_visit-requires
first_visit-requires c = (rows_of c.requires.memory, rw c.row_count.ensures.0 at c.in-Some.ensures)

pub returns-in-Some : goal.returns-in-Some
returns-in-Some c = first-chosen c.requires c.load_order-order.ensures c.if-scan-ne0.false c.marks_of-list.ensures c.first_visit.ensures

pub by_terms-requires : goal.by_terms-requires
by_terms-requires c =
    let b = c.args.state.now in
    let none = marks_none _ (state_of b).rows _ (rows-length b ∙ sym c.row_count.ensures.0) c.in_default.ensures in
    none-begins c.requires c.load_order-order.ensures c.if-scan-ne0.false c.marks_of-list.ensures none
