-- The record is added to the state that the memory is of, and the head is stored to the state with the record.
use Rattle.std.proofs.Common.{◌<◌, length, refl, ap, ◌∙◌, arith}
use Rattle.rules.specs.State.{Record, at}
use Rattle.rules.specs.Calls.{adding}
use Rattle.memory.specs.Edits.{record_added}
use Rattle.memory.specs.Layout.{bytes_of}
use Rattle.memory.specs.Reading.{state_of}
use Rattle.memory.specs.Fits.{RecordFits}
use Rattle.memory.proofs.RecordEdits.{fits-added}
use Rattle.uplink.proofs.Putting.{taken_queue, taken-state, taken-head, room-held}
use Rattle.uplink.proofs.put.take.Goals as goal

pub add_record-requires : goal.add_record-requires
add_record-requires c =
    let room = room-held c.args.state.now c.requires.0 c.args.slot c.requires.1 c.requires.2 c.requires.3 in
    (c.requires.1, room.0, room.1)

pub store_head-requires : goal.store_head-requires
store_head-requires c = c.requires.1

pub returns : goal.returns
returns c =
    let a = c.args in
    let H = c.requires.0 in
    let r : Record = record { length = a.length; reference = a.reference } in
    let fits : RecordFits r = record { length-fits = omega (arith, c.ranges.length.fits); reference-fits = omega (arith, c.ranges.reference.fits) } in
    let here = state_of a.state.now in
    let d = at here.channels a.slot in
    let l : a.slot < length (state_of a.state.now).channels = rw H.fits.size c.requires.1 in
    c.store_head.ensures (record_added here a.slot r) (adding d.deficit r d) (fits-added a.slot r H.fits c.requires.1 fits c.requires.2 c.requires.3)
    (c.add_record.ensures here H.fits H.bytes)
    (taken-head here a.slot r l c.requires.4 refl) (taken_queue here a.slot r l)
    ∙ ap bytes_of (taken-state here a.slot r l)
