-- The record goes in behind the last of the slot, and one more waits there.
use native.Mathlib.Omega.{arith}
use mathlib.Core.Path.{refl}
use Rattle.rules.specs.Numbers.{slots}
use Rattle.memory.specs.Reading.{waiting_at}
use Rattle.memory.proofs.RunEdits.{first_next, first-within}
use Rattle.memory.proofs.RecordEdits.{bytes-added}
use Rattle.memory.proofs.records.add_record.Goals as goal

pub in_steps-last-requires : goal.in_steps-last-requires
in_steps-last-requires c =
    let all = c.first_of-total in
    let first = c.first_of-place in
    let a = c.args in
    let b = a.state.now in
    omega (arith, first_next b a.slot, first-within b a.slot slots (omega arith), first.ensures, all.ensures)

pub returns : goal.returns
returns c =
    let last = c.in_steps-last in
    let all = c.first_of-total in
    let first = c.first_of-place in
    let a = c.args in
    let b = a.state.now in
    λ s F e.
    rw c.put_record.ensures
    (bytes-added b a.slot first.result last.result (waiting_at b a.slot) F e (omega arith) (omega arith) refl a.length a.reference
    (omega (arith, all.ensures)) first.ensures (omega arith) (omega arith) (omega arith))
