-- The first record of the slot goes out, and one less waits there.
use native.Mathlib.Omega.{arith}
use mathlib.Core.Path.{refl}
use Rattle.rules.specs.Numbers.{slots}
use Rattle.memory.specs.Reading.{waiting_at}
use Rattle.memory.proofs.RunEdits.{first-within}
use Rattle.memory.proofs.RecordEdits.{bytes-taken}
use Rattle.memory.proofs.records.take_record.Goals as goal

pub overflow_sub-total : goal.overflow_sub-total
overflow_sub-total c =
    let a = c.args in
    omega (arith, first-within a.state.now a.slot slots (omega arith), c.first_of-total.ensures)

pub in_steps-last-requires : goal.in_steps-last-requires
in_steps-last-requires c =
    let a = c.args in
    omega (arith, first-within a.state.now a.slot slots (omega arith), c.first_of-total.ensures)

pub returns : goal.returns
returns c =
    let last = c.in_steps-last in
    let all = c.first_of-total in
    let a = c.args in
    let b = a.state.now in
    λ s h rest F e q.
    rw c.drop_record.ensures
    (bytes-taken b a.slot a.place last.result (waiting_at b a.slot) F e (omega arith) (omega arith) refl h rest
    (omega (arith, all.ensures)) (omega arith) q)
