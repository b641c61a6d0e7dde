-- Each store is of the state that the next one needs: the order, the scan point, the record gone. Then the memory is of a state whose queue is what still waits;
-- the visit settled, of that state but for the order.
use mathlib.Core.Path.{ap, ◌∙◌}
use Rattle.memory.specs.Layout.{bytes_of}
use Rattle.visits.specs.Settle.{pointed}
use Rattle.visits.proofs.SettledState.{takes, first_taken, paid, pointed-stored, taken-unordered}
use Rattle.visits.proofs.settle.settle.Goals as goal

pub take_record-requires : goal.take_record-requires
take_record-requires c =
    let (z, here) = c.requires in
    takes z (pointed-stored z c.store_order.ensures c.store_scan.ensures) here

pub visit_settled-requires : goal.visit_settled-requires
visit_settled-requires c =
    let (z, here) = c.requires in
    let there = c.take_record.ensures (pointed z) z.first z.rest z.point-fits (pointed-stored z c.store_order.ensures c.store_scan.ensures) z.waits in
    (paid z there, here ∙ first_taken z there)

pub returns : goal.returns
returns c = λ z.
    let there = c.take_record.ensures (pointed z) z.first z.rest z.point-fits (pointed-stored z c.store_order.ensures c.store_scan.ensures) z.waits in
    c.visit_settled.ensures (paid z there) ∙ ap bytes_of (taken-unordered z)
