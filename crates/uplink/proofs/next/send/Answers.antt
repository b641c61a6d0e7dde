-- The choice is the rules', so the head record read is what they send, and settling it leaves their state.
use Rattle.std.proofs.Common.{refl, ap, ◌∙◌, arith}
use Rattle.memory.specs.declared.heads.Head.{Head}
use Rattle.memory.specs.declared.records.Cell.{Cell}
use Rattle.memory.specs.Records.{cell_of}
use Rattle.uplink.proofs.SentState.{slot_lt, oldest-there, first-is, costs_first, loaded, payable, settles, unordered-here, ordered-here, serial-is, sent}
use Rattle.uplink.proofs.next.send.Goals as goal

pub load_head-head-requires : goal.load_head-head-requires
load_head-head-requires c = slot_lt c.requires.0

pub first_of-place-requires : goal.first_of-place-requires
first_of-place-requires c = omega (arith, slot_lt c.requires.0)

pub load_record-first-requires : goal.load_record-first-requires
load_record-first-requires c = (oldest-there c.requires.0 c.first_of-place.ensures).1

pub head_serial-serial-requires : goal.head_serial-serial-requires
head_serial-serial-requires c = slot_lt c.requires.0

pub paying-paid-requires : goal.paying-paid-requires
paying-paid-requires c =
    let P = c.requires.0 in
    payable P (loaded P c.load_head-head.ensures) (costs_first P c.first_of-place.ensures c.load_record-first.ensures c.cost_of-cost.ensures)

pub settle-requires : goal.settle-requires
settle-requires c =
    let P = c.requires.0 in
    let costs = costs_first P c.first_of-place.ensures c.load_record-first.ensures c.cost_of-cost.ensures in
    (settles P (loaded P c.load_head-head.ensures) costs c.paying-paid.ensures refl, c.first_of-place.ensures)

pub overflow_cast-result : goal.overflow_cast-result
overflow_cast-result c = omega (arith, slot_lt c.requires.0)

pub returns : goal.returns
returns c =
    let P = c.requires.0 in
    let e = loaded P c.load_head-head.ensures in
    let costs = costs_first P c.first_of-place.ensures c.load_record-first.ensures c.cost_of-cost.ensures in
    let cell = c.load_record-first.ensures ∙ ap cell_of (first-is P c.first_of-place.ensures) in
    let paid = c.paying-paid.ensures in
    let left = c.settle.ensures in
    record {
      slot_lt = slot_lt P;
      unordered = unordered-here P e costs paid refl left;
      same =
          rw c.from.ensures
          (sent P c.requires.1 (ap (λ (h : Head). h.ticket) e) (ap (λ (x : Cell). x.length) cell) (ap (λ (x : Cell). x.reference) cell)
          (serial-is P e c.head_serial-serial.ensures) (ordered-here P e costs paid refl left));
    }
