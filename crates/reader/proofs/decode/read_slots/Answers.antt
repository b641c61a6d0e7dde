-- The slots passed are in the memory.
use Rattle.std.proofs.Common.{ℕ, ◌+◌, sym, ap, ◌∙◌, arith}
use Rattle.memory.specs.Reading.{waiting_at}
use Rattle.reader.proofs.SlotsDecode.{slots-none, slots-first, slots-step, slots-place, slots-ended}
use Rattle.reader.proofs.decode.read_slots.Goals as goal

pub loop-slot-init : goal.loop-slot-init
loop-slot-init c =
    let a = c.args in
    (omega arith, λ e cs F R. (slots-first a.image.now a.memory.now a.version.number 0 e cs F R.memory R.fits, rw (slots-none e cs) at R))

pub loop-slot-preserved : goal.loop-slot-preserved
loop-slot-preserved c =
    let a = c.args in
    let v = a.version.number in
    let l = c.loop-slot in
    let more = c.loop-slot-test.true in
    let one = c.read_slot-left in
    let here = c.waiting_of-place in (
      omega (arith, l.invariant.0, here.ensures.1),
      λ e cs F R.
          let (ends, reached) = l.invariant.1 e cs F R in
          let after = slots-step l.left.now l.memory v l.slot e cs F l.place ends more reached one.ensures in (
            ap (λ (n : ℕ). l.place + n) here.ensures.0 ∙ ap (λ (n : ℕ). n + waiting_at one.new.memory l.slot) ends
                ∙ sym (slots-place l.left.now l.memory v l.slot e cs F more reached after),
            after,
          ),
    )

pub returns : goal.returns
returns c =
    let a = c.args in
    let l = c.loop-slot in
    λ e cs F R. slots-ended l.left.now l.memory a.version.number l.slot e cs F (omega arith) (l.invariant.1 e cs F R).1
