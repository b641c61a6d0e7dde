-- The bytes passed are the number so far.
use Rattle.std.proofs.Common.{◌≡◌, refl, arith, length}
use Rattle.image.specs.Parts.{as_number}
use Rattle.reader.proofs.TakingLaws.{number_more, room-more}
use Rattle.reader.proofs.taking.number_of.Goals as goal

pub loop-byte-init : goal.loop-byte-init
unfolding as_number
loop-byte-init c = (omega arith, refl)

pub overflow_mul-number : goal.overflow_mul-number
overflow_mul-number c =
    let l = c.loop-byte in
    omega (arith, room-more l.byte-index l.number 0 l.invariant.0 (omega arith) (omega arith))

pub overflow_add-number : goal.overflow_add-number
overflow_add-number c =
    let l = c.loop-byte in
    omega (arith, room-more l.byte-index l.number c.from.result l.invariant.0 (omega (arith, c.type_inv.bytes l.byte-index, c.from.ensures)) (omega arith))

pub loop-byte-preserved : goal.loop-byte-preserved
loop-byte-preserved c =
    let l = c.loop-byte in (
      (room-more l.byte-index l.number c.from.result l.invariant.0 (omega (arith, c.type_inv.bytes l.byte-index, c.from.ensures)) (omega arith)).0,
      number_more l.byte-index c.args.bytes.now l.number c.from.result l.invariant.1 c.from.ensures,
    )

pub returns : goal.returns
returns c =
    let l = c.loop-byte in
    let e : l.byte-index ≡ length c.args.bytes.now = omega arith in
    rw e at l.invariant.1
