-- The notes are right for the slots passed, and the base stays.
use Rattle.std.proofs.Common.{◌≡◌, refl, ◌∙◌, arith}
use Rattle.rules.specs.Numbers.{slots}
use Rattle.memory.specs.Memory.{base}
use Rattle.memory.specs.Reading.{first_at}
use Rattle.reader.specs.Decoding.{bytes_to}
use Rattle.reader.proofs.NotesLaws.{bytes-there, place-there, counted_none, none_yet, counted-turn, counted-all}
use Rattle.reader.proofs.notes.note_all.Goals as goal

pub loop-slot-init : goal.loop-slot-init
unfolding first_at
loop-slot-init c =
    let m = c.args.memory.now in
    (omega arith, refl, refl, counted_none (base m) m c.requires)

pub loop-slot-preserved : goal.loop-slot-preserved
loop-slot-preserved c =
    let m = c.args.memory.now in
    let l = c.loop-slot in
    let front = rw c.unwrap-base.ensures at c.first_chunk.ensures.cases in
    let here = front.same ∙ l.invariant.2 in
    let count = c.waiting_of-count in
    let bytes = c.bytes_from-bytes in
    let noted = c.note_any in (
      omega (arith, l.invariant.0, count.ensures.1),
      place-there (base m) c.unwrap-base.result.now l.slot l.place count.result here l.invariant.1 count.ensures.0,
      noted.ensures.1 ∙ l.invariant.2,
      counted-turn (base m) noted.new.memory l.slot bytes.result
          (bytes-there (base m) c.unwrap-base.result.now l.slot l.place count.result bytes.result here l.invariant.1 count.ensures.0 bytes.ensures)
          (noted.ensures.0 (bytes_to (base m) l.slot) (none_yet (base m) l.memory l.slot) l.invariant.3),
    )

pub returns : goal.returns
returns c =
    let l = c.loop-slot in
    let e : l.slot ≡ slots = omega arith in
    counted-all (base c.args.memory.now) l.memory (rw e at l.invariant.3) l.invariant.2
