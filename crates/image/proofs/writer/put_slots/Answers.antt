-- At each turn the slots passed are written, and `place` is where the next one's records begin.
use Rattle.std.proofs.Common.{refl, arith}
use Rattle.lists.specs.Tabs.{tab}
use Rattle.memory.specs.Reading.{first_at}
use Rattle.memory.proofs.RunEdits.{first_next}
use Rattle.image.specs.Image.{entries}
use Rattle.octets.proofs.WroteLaws.{nothing_wrote, then_wrote, wrote_as}
use Rattle.image.proofs.EntryLaws.{slot-room, entries-turn, first-total, sound-kind, sound-total}
use Rattle.image.proofs.writer.put_slots.Goals as goal

pub loop-slot-init : goal.loop-slot-init
unfolding first_at entries tab
loop-slot-init c = (refl, nothing_wrote c.args.w.now (omega arith))

pub put_slot-requires : goal.put_slot-requires
put_slot-requires c =
    let a = c.args in
    let m = a.state.now in
    let l = c.loop-slot in
    let here = c.loop-slot-test.true in
    let W = l.invariant.1 in (
      here,
      sound-kind m c.requires.0 l.slot here,
      l.invariant.0,
      omega (arith, first_next m l.slot, first-total m l.slot here, sound-total m c.requires.0, l.invariant.0),
      omega (arith, slot-room a.version.number m l.slot here, W.written.place, W.same_length, c.requires.1),
    )

pub overflow_add-place : goal.overflow_add-place
overflow_add-place c =
    let m = c.args.state.now in
    let l = c.loop-slot in
    omega (arith, c.waiting_of-place.ensures.0, first_next m l.slot, first-total m l.slot c.loop-slot-test.true, sound-total m c.requires.0, l.invariant.0)

pub loop-slot-preserved : goal.loop-slot-preserved
loop-slot-preserved c =
    let a = c.args in
    let m = a.state.now in
    let l = c.loop-slot in (
      omega (arith, c.waiting_of-place.ensures.0, first_next m l.slot, l.invariant.0),
      wrote_as (entries-turn a.version.number m l.slot) (then_wrote l.invariant.1 c.put_slot.ensures),
    )
