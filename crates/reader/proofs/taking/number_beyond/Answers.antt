-- The bytes passed are the number so far.
use Rattle.std.proofs.Common.{◌≡◌, ◌∙◌, refl, arith}
use Rattle.image.specs.Parts.{as_number}
use Rattle.reader.proofs.TakingLaws.{number_more, room-more}
use Rattle.reader.proofs.taking.number_beyond.Goals as goal

pub loop-i-init : goal.loop-i-init
unfolding as_number
loop-i-init c = (omega arith, refl)

pub overflow_mul-number : goal.overflow_mul-number
overflow_mul-number c =
    let l = c.loop-i in
    omega (arith, room-more l.i l.number 0 l.invariant.0 (omega arith) (omega arith))

pub overflow_add-number : goal.overflow_add-number
overflow_add-number c =
    let l = c.loop-i in
    omega (arith, room-more l.i l.number c.from.result l.invariant.0 (omega (arith, c.from.ensures)) (omega arith))

pub loop-i-preserved : goal.loop-i-preserved
loop-i-preserved c =
    let l = c.loop-i in (
      (room-more l.i l.number c.from.result l.invariant.0 (omega (arith, c.from.ensures)) (omega arith)).0,
      number_more l.i c.args.image.now l.number c.from.result l.invariant.1 (c.from.ensures ∙ c.byte_at.ensures),
    )

pub returns : goal.returns
returns c =
    let l = c.loop-i in
    let e : l.i ≡ c.args.width = omega arith in
    rw e at l.invariant.1
