-- The numbers of the entry are taken and stored, and then its records.
use Rattle.std.proofs.Common.{◌≡◌, ℕ, List, length, get_or, ap, ◌∙◌, arith}
use Rattle.image.specs.Parts.{as_number}
use Rattle.image.specs.Image.{length_width}
use Rattle.reader.proofs.TakingLaws.{low}
use Rattle.reader.proofs.SlotDecode.{C, slot-taken, slot_read}
use Rattle.reader.proofs.decode.read_slot.Goals as goal

pub returns : goal.returns
returns c =
    let a = c.args in
    let v = a.version.number in
    let parts = rw (c.wide-wide.ensures, c.length_width.ensures) at c.take_numbers.ensures in
    λ s d rest F idle behind ends R.
    let fits = C a.image.now a.memory.now s a.slot v c.requires.0 a.version.known.0 d rest F idle behind R in
    let taken = parts.0 ∙ slot-taken a.image.now a.memory.now s a.slot v c.requires.0 a.version.known.0 d rest F idle behind R in
    let head = c.head_in.ensures (as_number (length_width v) a.image.now) v d fits taken in
    let count : get_or c.take_numbers.result.0 6 0 ≡ length d.waiting = ap (λ (ns : List ℕ). get_or ns 6 0) taken in
    slot_read a.image.now a.memory.now s a.slot v c.requires.0 a.version.known.0 d rest F idle behind R a.place ends c.unwrap_or-count.result
    c.take_numbers.result.1.now c.store_head.new.state c.read_records.result.now c.read_records.new.memory parts.1 (rw head at c.store_head.ensures)
    (low c.try_from.result c.try_from.ensures c.unwrap_or-count.ensures (omega (arith, count, fits.few)) ∙ count) c.read_records.ensures
