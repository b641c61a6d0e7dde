-- Each way out is the answer that the tests so far give.
use Rattle.std.proofs.Common.{◌≡◌, ◌+◌, ◌-◌, sym, ◌∙◌, arith}
use Rattle.std.proofs.lemmas.Bool.{lt-leb}
use Rattle.rules.specs.Numbers.{listed}
use Rattle.memory.specs.Names as the
use Rattle.memory.specs.Layout.{note_place}
use Rattle.soundness.specs.Check.{clear}
use Rattle.soundness.proofs.ListLaws.{too_many, not-clear, not_in_order, counted}
use Rattle.soundness.proofs.NotesRead.{part-clear}
use Rattle.soundness.proofs.list.fullest_ok.Goals as goal

pub returns-else-n-le-LISTED : goal.returns-else-n-le-LISTED
returns-else-n-le-LISTED c = lt-leb _ 5 c.if-n-le-LISTED.false ∙ too_many _ c.fits-state _ c.from-n.ensures c.if-n-le-LISTED.false

pub returns-else-at_most : goal.returns-else-at_most
returns-else-at_most c =
    let b = c.args.state.now in
    let n = c.from-n.result in
    let rest : c.at_most.result ≡ clear b (note_place the.fullest + n) (listed - n) = part-clear b (note_place the.fullest + n) (listed - n) (omega arith) (omega arith) c.at_most.ensures in
    c.if-at_most.false ∙ not-clear _ c.fits-state _ c.from-n.ensures c.if-n-le-LISTED.true (sym rest ∙ c.if-at_most.false)

pub returns-else-in_order : goal.returns-else-in_order
returns-else-in_order c =
    let b = c.args.state.now in
    let n = c.from-n.result in
    let rest : c.at_most.result ≡ clear b (note_place the.fullest + n) (listed - n) = part-clear b (note_place the.fullest + n) (listed - n) (omega arith) (omega arith) c.at_most.ensures in
    c.if-in_order.false
    ∙ not_in_order _ c.fits-state _ c.from-n.ensures c.if-n-le-LISTED.true (sym rest ∙ c.if-at_most.true) (sym c.in_order.ensures ∙ c.if-in_order.false)

pub count_for-requires : goal.count_for-requires
count_for-requires c = (c.if-n-le-LISTED.true, sym c.in_order.ensures ∙ c.if-in_order.true)

pub returns-then-in_order : goal.returns-then-in_order
returns-then-in_order c =
    let b = c.args.state.now in
    let n = c.from-n.result in
    let rest : c.at_most.result ≡ clear b (note_place the.fullest + n) (listed - n) = part-clear b (note_place the.fullest + n) (listed - n) (omega arith) (omega arith) c.at_most.ensures in
    counted _ c.fits-state _ c.from-n.ensures _ c.if-n-le-LISTED.true (sym rest ∙ c.if-at_most.true) (sym c.in_order.ensures ∙ c.if-in_order.true) (c.from.ensures ∙ c.count_for.ensures)
