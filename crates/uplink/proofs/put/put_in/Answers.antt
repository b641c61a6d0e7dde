-- Each test is a check of the rules; the record is taken, and the slot joins the rows where none waited.
use Rattle.std.proofs.Common.{◌≡◌, ◌≤◌, false, [], length, sym, ap, ◌∙◌, lt_of_le_of_lt, arith, leb-false}
use Rattle.spread.specs.Limits.{outside}
use Rattle.spread.proofs.Limits.{between}
use Rattle.rules.specs.Numbers.{slots, longest}
use Rattle.rules.specs.State.{Record, at, shared_use}
use Rattle.rules.specs.Calls.{no_cell}
use Rattle.memory.specs.Reading.{state_of}
use Rattle.memory.specs.Fits.{RecordFits, Fits}
use Rattle.memory.proofs.RowEdits.{fits-joined}
use Rattle.uplink.specs.Found.{refusal_of}
use Rattle.uplink.specs.PutSteps.{record_taken}
use Rattle.uplink.proofs.put.put_in.Goals as goal
use Rattle.uplink.proofs.Lending.{sound_of, sound-holds, held-state, holds}
use Rattle.uplink.proofs.Closing.{none-waits}
use Rattle.uplink.proofs.Putting.{
  fits-record-taken,
  row-room-held,
  no_row,
  joined-here,
  cell_in,
  put_no_cell,
  waits_in,
  put-unnamed,
  put-closing,
  put-bad-length,
  put_full,
  put-more-given,
  put-first-given,
  puts-refused,
  puts-more,
}

pub returns-in_default : goal.returns-in_default
returns-in_default c =
    let a = c.args in
    rw (c.refusal_of.ensures ∙ ap refusal_of c.in_default.is) (puts-refused (put-unnamed a.state.now a.slot a.ticket a.length a.reference c.requires.1 _ c.in_default.ensures))

pub returns-then-head-eq2 : goal.returns-then-head-eq2
returns-then-head-eq2 c =
    let channel = c.in-Ok.ensures in
    let a = c.args in
    puts-refused
    (put-closing a.state.now a.slot a.ticket a.length a.reference c.requires.1 c.in-Ok.head channel c.if-head-eq2.true)

pub returns-then-outside : goal.returns-then-outside
returns-then-outside c =
    let channel = c.in-Ok.ensures in
    let a = c.args in
    puts-refused
    (put-bad-length a.state.now a.slot a.ticket a.length a.reference c.requires.1 c.in-Ok.head channel
    c.if-head-eq2.false (sym c.outside.ensures ∙ c.if-outside.true))

pub waiting_of-waiting-requires : goal.waiting_of-waiting-requires
waiting_of-waiting-requires c =
    let channel = c.in-Ok.ensures in
    leb-false slots _ channel.0

pub returns-then-waiting-ge-ROOM : goal.returns-then-waiting-ge-ROOM
returns-then-waiting-ge-ROOM c =
    let channel = c.in-Ok.ensures in
    let good_length : outside 1 longest c.args.length ≡ false = sym c.outside.ensures ∙ c.if-outside.false in
    let a = c.args in
    puts-refused
    (put_full a.state.now a.slot a.ticket a.length a.reference c.requires.1 c.in-Ok.head channel
    c.if-head-eq2.false (sound-holds _ c.requires.0) good_length c.waiting_of-waiting.result c.waiting_of-waiting.ensures.0
    c.if-waiting-ge-ROOM.true)

pub returns-then-no_cell : goal.returns-then-no_cell
returns-then-no_cell c =
    let channel = c.in-Ok.ensures in
    let good_length : outside 1 longest c.args.length ≡ false = sym c.outside.ensures ∙ c.if-outside.false in
    let a = c.args in
    puts-refused
    (put_no_cell a.state.now a.slot a.ticket a.length a.reference c.requires.1 c.in-Ok.head channel
    c.if-head-eq2.false (sound-holds _ c.requires.0) good_length c.waiting_of-waiting.result c.waiting_of-waiting.ensures.0
    c.if-waiting-ge-ROOM.false
    (cell_in a.state.now a.slot a.ticket a.length a.reference c.requires.1 c.in-Ok.head channel
    c.if-head-eq2.false (sound-holds _ c.requires.0) good_length c.waiting_of-waiting.result c.waiting_of-waiting.ensures.0
    c.if-waiting-ge-ROOM.false c.no_cell.result c.no_cell.ensures ∙ c.if-no_cell.true))

pub take-requires : goal.take-requires
take-requires c =
    let channel = c.in-Ok.ensures in
    let good_length : outside 1 longest c.args.length ≡ false = sym c.outside.ensures ∙ c.if-outside.false in
    let waits : c.waiting_of-waiting.result ≡ length (at (state_of c.args.state.now).channels c.args.slot).waiting = let a = c.args in
    waits_in a.state.now a.slot a.ticket a.length a.reference c.requires.1 c.in-Ok.head channel
    c.if-head-eq2.false (sound-holds _ c.requires.0) good_length c.waiting_of-waiting.result c.waiting_of-waiting.ensures.0 in
    let free : (let a = c.args in no_cell (at (state_of a.state.now).channels a.slot) (shared_use (state_of a.state.now).channels) ≡ false) = let a = c.args in
    cell_in a.state.now a.slot a.ticket a.length a.reference c.requires.1 c.in-Ok.head channel
    c.if-head-eq2.false (sound-holds _ c.requires.0) good_length c.waiting_of-waiting.result c.waiting_of-waiting.ensures.0
    c.if-waiting-ge-ROOM.false c.no_cell.result c.no_cell.ensures ∙ c.if-no_cell.false in
    (sound-holds _ c.requires.0, leb-false slots _ channel.0, rw (← waits) c.if-waiting-ge-ROOM.false, free, channel.2)

pub join_row-requires : goal.join_row-requires
join_row-requires c =
    let channel = c.in-Ok.ensures in
    let good_length : outside 1 longest c.args.length ≡ false = sym c.outside.ensures ∙ c.if-outside.false in
    let waits : c.waiting_of-waiting.result ≡ length (at (state_of c.args.state.now).channels c.args.slot).waiting = let a = c.args in
    waits_in a.state.now a.slot a.ticket a.length a.reference c.requires.1 c.in-Ok.head channel
    c.if-head-eq2.false (sound-holds _ c.requires.0) good_length c.waiting_of-waiting.result c.waiting_of-waiting.ensures.0 in
    let free : (let a = c.args in no_cell (at (state_of a.state.now).channels a.slot) (shared_use (state_of a.state.now).channels) ≡ false) = let a = c.args in
    cell_in a.state.now a.slot a.ticket a.length a.reference c.requires.1 c.in-Ok.head channel
    c.if-head-eq2.false (sound-holds _ c.requires.0) good_length c.waiting_of-waiting.result c.waiting_of-waiting.ensures.0
    c.if-waiting-ge-ROOM.false c.no_cell.result c.no_cell.ensures ∙ c.if-no_cell.false in
    let taken-fits : (let w = c in let a = w.before.before.before.before.before.before.before.before.before.before.before.before.args in Fits (record_taken (state_of a.state.now) a.slot (record { length = a.length; reference = a.reference }))) = let a = c.args in
    let r : Record = record { length = a.length; reference = a.reference } in
    let low : a.length ≤ longest = (between 1 longest _ good_length).1 in
    let fits : RecordFits r = record { length-fits = lt_of_le_of_lt low (omega arith); reference-fits = omega (arith, c.ranges.reference.fits) } in
    fits-record-taken a.slot r (sound-holds _ c.requires.0).fits (leb-false slots _ channel.0) fits (rw (← waits) c.if-waiting-ge-ROOM.false) free in
    let empty : (let a = c.args in (at (state_of a.state.now).channels a.slot).waiting ≡ []) = none-waits _ (sym waits ∙ c.if-waiting-eq0.true) in
    let a = c.args in
    let H = holds c.take.new.state taken-fits c.take.ensures in
    let low = leb-false slots _ channel.0 in
    let none = no_row a.slot (sound_of a.state.now c.requires.0) empty in
    (low, row-room-held c.take.new.state H a.slot low (rw (held-state c.take.new.state taken-fits c.take.ensures) none))

pub returns-then-waiting-eq0 : goal.returns-then-waiting-eq0
returns-then-waiting-eq0 c =
    let channel = c.in-Ok.ensures in
    let good_length : outside 1 longest c.args.length ≡ false = sym c.outside.ensures ∙ c.if-outside.false in
    let waits : c.waiting_of-waiting.result ≡ length (at (state_of c.args.state.now).channels c.args.slot).waiting = let a = c.args in
    waits_in a.state.now a.slot a.ticket a.length a.reference c.requires.1 c.in-Ok.head channel
    c.if-head-eq2.false (sound-holds _ c.requires.0) good_length c.waiting_of-waiting.result c.waiting_of-waiting.ensures.0 in
    let free : (let a = c.args in no_cell (at (state_of a.state.now).channels a.slot) (shared_use (state_of a.state.now).channels) ≡ false) = let a = c.args in
    cell_in a.state.now a.slot a.ticket a.length a.reference c.requires.1 c.in-Ok.head channel
    c.if-head-eq2.false (sound-holds _ c.requires.0) good_length c.waiting_of-waiting.result c.waiting_of-waiting.ensures.0
    c.if-waiting-ge-ROOM.false c.no_cell.result c.no_cell.ensures ∙ c.if-no_cell.false in
    let taken-fits : (let w = c in let a = w.before.before.before.before.before.before.before.before.before.before.before.before.args in Fits (record_taken (state_of a.state.now) a.slot (record { length = a.length; reference = a.reference }))) = let a = c.args in
    let r : Record = record { length = a.length; reference = a.reference } in
    let low : a.length ≤ longest = (between 1 longest _ good_length).1 in
    let fits : RecordFits r = record { length-fits = lt_of_le_of_lt low (omega arith); reference-fits = omega (arith, c.ranges.reference.fits) } in
    fits-record-taken a.slot r (sound-holds _ c.requires.0).fits (leb-false slots _ channel.0) fits (rw (← waits) c.if-waiting-ge-ROOM.false) free in
    let empty : (let a = c.args in (at (state_of a.state.now).channels a.slot).waiting ≡ []) = none-waits _ (sym waits ∙ c.if-waiting-eq0.true) in
    let a = c.args in
    let S = sound_of a.state.now c.requires.0 in
    let r : Record = record { length = a.length; reference = a.reference } in
    let low = leb-false slots _ channel.0 in
    let none = empty in
    let left = c.join_row.ensures _ taken-fits c.take.ensures (no_row a.slot S none) in
    record {
      joined = λ z. joined-here a.slot r low S taken-fits none _ left;
      same =
          put-first-given a.state.now a.slot a.ticket a.length a.reference c.requires.1 c.in-Ok.head channel
          c.if-head-eq2.false (sound-holds _ c.requires.0) good_length c.waiting_of-waiting.result c.waiting_of-waiting.ensures.0
          c.if-waiting-ge-ROOM.false free c.if-waiting-eq0.true S _
          (held-state _ (fits-joined taken-fits a.slot low (no_row a.slot S none)) left);
    }

pub returns : goal.returns
returns c =
    let channel = c.in-Ok.ensures in
    let good_length : outside 1 longest c.args.length ≡ false = sym c.outside.ensures ∙ c.if-outside.false in
    let free : (let a = c.args in no_cell (at (state_of a.state.now).channels a.slot) (shared_use (state_of a.state.now).channels) ≡ false) = let a = c.args in
    cell_in a.state.now a.slot a.ticket a.length a.reference c.requires.1 c.in-Ok.head channel
    c.if-head-eq2.false (sound-holds _ c.requires.0) good_length c.waiting_of-waiting.result c.waiting_of-waiting.ensures.0
    c.if-waiting-ge-ROOM.false c.no_cell.result c.no_cell.ensures ∙ c.if-no_cell.false in
    let a = c.args in
    puts-more c.if-waiting-eq0.false
    (put-more-given a.state.now a.slot a.ticket a.length a.reference c.requires.1 c.in-Ok.head channel
    c.if-head-eq2.false (sound-holds _ c.requires.0) good_length c.waiting_of-waiting.result c.waiting_of-waiting.ensures.0
    c.if-waiting-ge-ROOM.false free c.if-waiting-eq0.false _ c.take.ensures)
