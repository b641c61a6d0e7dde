-- The record is taken where there is room for it, and a good image's has room.
use Rattle.std.proofs.Common.{◌≡◌, ℕ, List, [], ◌∷◌, get_or, ap, ◌∙◌, arith}
use Rattle.reader.proofs.TakingLaws.{low}
use Rattle.reader.proofs.RecordsDecode.{record-room, record-fits, record-taken, record-place, record-reached}
use Rattle.reader.proofs.decode.read_record.Goals as goal

pub returns-then-place-lt-CELLS : goal.returns-then-place-lt-CELLS
returns-then-place-lt-CELLS c =
    let a = c.args in
    let parts = c.take_numbers.ensures in
    λ s x rest F ends R.
    let f = record-fits a.slot x rest c.requires F R in
    let taken : c.take_numbers.result.0 ≡ x.length ∷ x.reference ∷ [] = parts.0 ∙ record-taken a.slot x rest c.requires F R in
    let size : get_or c.take_numbers.result.0 0 0 ≡ x.length = ap (λ (ns : List ℕ). get_or ns 0 0) taken in
    let reference : get_or c.take_numbers.result.0 1 0 ≡ x.reference = ap (λ (ns : List ℕ). get_or ns 1 0) taken in
    record-reached a.slot x rest c.requires F R c.unwrap_or-length.result c.unwrap_or-reference.result parts.1
    (low c.try_from.result c.try_from.ensures c.unwrap_or-length.ensures (omega (arith, size, f.length-fits)) ∙ size)
    (low c.try_from-2.result c.try_from-2.ensures c.unwrap_or-reference.ensures (omega (arith, reference, f.reference-fits)) ∙ reference)
    a.place ends c.append_record.ensures

pub returns-else-place-lt-CELLS : goal.returns-else-place-lt-CELLS
returns-else-place-lt-CELLS c =
    λ s x rest F ends R. absurd (omega (arith, record-place c.args.slot x rest c.requires F R c.args.place ends, c.if-place-lt-CELLS.false))

pub returns-else-waiting_of-lt-ROOM : goal.returns-else-waiting_of-lt-ROOM
returns-else-waiting_of-lt-ROOM c =
    λ s x rest F ends R. absurd (omega (arith, record-room c.args.slot x rest c.requires F R, c.if-waiting_of-lt-ROOM.false, c.waiting_of.ensures.0))
