-- Reading what was written gives the same state: each number is read where its part was laid, and each list behind what says its length.
use Prim.Native.Nat.{ℕ, suc, ◌+◌, ◌*◌, ◌^◌, ◌≤◌, ◌<◌}
use mathlib.Core.Path.{◌≡◌, refl, sym, ap, ◌∙◌}
use mathlib.Core.Bool.{false}
use mathlib.Core.List.{List, [], ◌∷◌, ◌++◌, append_assoc}
use mathlib.Core.Option.{Option, none, some}
use native.Mathlib.Omega.{arith}
use native.Mathlib.Nat.{add-zero, pow-le-pow_right, lt_of_lt_of_le}
use lib.ListN.{length, get_or, take, drop, length-append}
use lib.Seq.{take-append_seam, drop-append_seam}
use borrow.Author.Tests.{ne_eqb}
use Rattle.bits.specs.Mask.{mask_of}
use Rattle.bits.proofs.MaskLaws.{keep_mask}
use Rattle.rules.specs.Numbers.{slots}
use Rattle.rules.specs.State.{Record, Channel, State, with_mark, at, kind_number, visit_number}
use Rattle.memory.specs.Names as the
use Rattle.memory.specs.Layout.{width}
use Rattle.memory.specs.Fits.{Each, each_nil, each_cons, RecordFits, SlotFits, Fits}
use Rattle.memory.proofs.Fitting.{kind-most, rows_few, mask_fits}
use Rattle.memory.proofs.RoundTrip.{kind-back}
use Rattle.image.specs.Parts.{widths, laid, span, part_in}
use Rattle.image.specs.Image.{wide, visit_byte, record_bytes, record_parts, records_bytes, slot_parts, entry, entries, head_parts, lists, image_of}
use Rattle.image.specs.Reading.{records_in, waiting_in, channel_in, channels_in, visit_in, slot_widths, head_widths, row_count_in, state_in, version_in}
use Rattle.image.proofs.PartLaws.{no_part, length-laid, drop-laid, part-back}

-- ---- records

drop-record : (r : Record) (rest : List ℕ) → drop record_bytes (laid (record_parts r) ++ rest) ≡ rest
drop-record r rest = drop-laid (record_parts r) rest 0

pub records-back : (rs : List Record) (rest : List ℕ) → Each RecordFits rs → records_in (length rs) (records_bytes rs ++ rest) ≡ rs
unfolding records_in records_bytes
records-back [] rest each_nil = refl
records-back (r ∷ rs) rest (each_cons f fs) =
    let later = records_bytes rs ++ rest in
    let size : part_in (widths (record_parts r)) 0 (laid (record_parts r) ++ later) ≡ r.length = part-back (record_parts r) 0 later (omega arith) f.length-fits in
    let reference : part_in (widths (record_parts r)) 1 (laid (record_parts r) ++ later) ≡ r.reference
    = part-back (record_parts r) 1 later (omega arith) f.reference-fits in
    rw (append_assoc (laid (record_parts r)) (records_bytes rs) rest, size, reference, drop-record r later, records-back rs rest fs)

pub length-records : (rs : List Record) → length (records_bytes rs) ≡ record_bytes * length rs
unfolding records_bytes
length-records [] = refl
length-records (r ∷ rs) = omega (arith, length-append (laid (record_parts r)) (records_bytes rs), length-laid (record_parts r), length-records rs)

-- ---- entries, in a version whose wide numbers take two bytes or more

module _ (v : ℕ) (h : 1 ≤ v) where
  pub wide-holds : (n : ℕ) → n < 256 ^ width the.weight → n < 256 ^ wide v
  wide-holds n l = let le : 2 ≤ 2 * v = omega arith in lt_of_lt_of_le l (pow-le-pow_right {n = 256} (omega arith) le)

  module _ (c : Channel) (F : SlotFits c) (rest : List ℕ) where
    abbrev bytes : List ℕ
    bytes = laid (slot_parts v c) ++ (records_bytes c.waiting ++ rest)

    entry-shape : entry v c ++ rest ≡ bytes
    unfolding entry
    entry-shape = append_assoc (laid (slot_parts v c)) (records_bytes c.waiting) rest

    read : (k : ℕ) → k < 7 → (get_or (slot_parts v c) k no_part).number < 256 ^ (get_or (slot_parts v c) k no_part).width
        → part_in (slot_widths v) k bytes ≡ (get_or (slot_parts v c) k no_part).number
    read k l = part-back (slot_parts v c) k (records_bytes c.waiting ++ rest) l

    waiting-read : waiting_in v (entry v c ++ rest) ≡ length c.waiting
    waiting-read = rw entry-shape (read 6 (omega arith) (omega arith))

    pub channel-back : channel_in v (entry v c ++ rest) ≡ c
    unfolding channel_in
    channel-back =
        let kind : part_in (slot_widths v) 1 bytes ≡ kind_number c.kind = read 1 (omega arith) (omega (arith, kind-most c.kind)) in
        let ticket : part_in (slot_widths v) 2 bytes ≡ c.ticket = read 2 (omega arith) F.ticket-fits in
        let weight : part_in (slot_widths v) 3 bytes ≡ c.weight = read 3 (omega arith) (wide-holds c.weight F.weight-fits) in
        let deficit : part_in (slot_widths v) 4 bytes ≡ c.deficit = read 4 (omega arith) F.deficit-fits in
        let serial : part_in (slot_widths v) 5 bytes ≡ c.serial = read 5 (omega arith) F.serial-fits in
        let few : part_in (slot_widths v) 6 bytes ≡ length c.waiting = read 6 (omega arith) (omega (arith, F.few)) in
        let behind : drop (span (slot_widths v)) bytes ≡ records_bytes c.waiting ++ rest
        = ap (λ (n : ℕ). drop n bytes) (sym (add-zero (span (slot_widths v)))) ∙ drop-laid (slot_parts v c) (records_bytes c.waiting ++ rest) 0 in
        rw (entry-shape, kind, ticket, weight, deficit, serial, few, behind, kind-back c.kind, records-back c.waiting rest F.records)

    pub entry-passed : drop (span (slot_widths v) + record_bytes * waiting_in v (entry v c ++ rest)) (entry v c ++ rest) ≡ rest
    entry-passed =
        let e : record_bytes * length c.waiting ≡ length (records_bytes c.waiting) = sym (length-records c.waiting) in
        rw (waiting-read, entry-shape, drop-laid (slot_parts v c) (records_bytes c.waiting ++ rest) (record_bytes * length c.waiting), e)
        (drop-append_seam (records_bytes c.waiting) rest)

  pub channels-back : (cs : List Channel) → ((i : ℕ) → SlotFits (at cs i)) → channels_in v (length cs) (entries v cs) ≡ cs
  unfolding channels_in entries
  channels-back [] F = refl
  channels-back (c ∷ cs) F =
      rw (channel-back c (F 0) (entries v cs), entry-passed c (F 0) (entries v cs), channels-back cs (λ i. F (suc i)))

  -- ---- the whole

  visit-back : (o : Option ℕ) → visit_number o < 256 ^ width the.visit → visit_in (visit_byte o) ≡ o
  visit-back none l = refl
  visit-back (some i) l = rw (ne_eqb i 255 (λ e. omega arith))

  pub visit-lt : (o : Option ℕ) → visit_number o < 256 ^ width the.visit → visit_byte o < 256
  visit-lt none l = omega arith
  visit-lt (some i) l = omega arith

  module _ {s : State} (F : Fits s) where
    head : (k : ℕ) → k < 9 → (get_or (head_parts v s) k no_part).number < 256 ^ (get_or (head_parts v s) k no_part).width
        → part_in (head_widths v) k (image_of v s) ≡ (get_or (head_parts v s) k no_part).number
    unfolding image_of
    head k l = part-back (head_parts v s) k (lists v s) l

    behind-head : (n : ℕ) → drop (span (head_widths v) + n) (image_of v s) ≡ drop n (lists v s)
    unfolding image_of
    behind-head n = drop-laid (head_parts v s) (lists v s) n

    pub state-back : state_in v (image_of v s) ≡ with_mark s false
    unfolding state_in lists
    state-back =
        let count : row_count_in v (image_of v s) ≡ length s.rows = head 8 (omega arith) (omega (arith, rows_few F)) in
        let edition : part_in (head_widths v) 2 (image_of v s) ≡ s.edition = head 2 (omega arith) F.edition-fits in
        let order : part_in (head_widths v) 3 (image_of v s) ≡ s.order = head 3 (omega arith) F.order-fits in
        let position : part_in (head_widths v) 4 (image_of v s) ≡ s.scan.position
        = head 4 (omega arith) (wide-holds s.scan.position F.position-fits) in
        let column : part_in (head_widths v) 5 (image_of v s) ≡ s.scan.column = head 5 (omega arith) F.column_fits in
        let mask : part_in (head_widths v) 6 (image_of v s) ≡ mask_of s.scan.to_visit = head 6 (omega arith) (mask_fits F) in
        let visit : part_in (head_widths v) 7 (image_of v s) ≡ visit_byte s.scan.visit
        = head 7 (omega arith) (visit-lt s.scan.visit F.visit-fits) in
        let rows : take (length s.rows) (drop (span (head_widths v)) (image_of v s)) ≡ s.rows
        = ap (λ (n : ℕ). take (length s.rows) (drop n (image_of v s))) (sym (add-zero (span (head_widths v))))
        ∙ ap (take (length s.rows)) (behind-head 0)
        ∙ take-append_seam s.rows (entries v s.channels) in
        let channels : channels_in v slots (drop (span (head_widths v) + length s.rows) (image_of v s)) ≡ s.channels
        = ap (channels_in v slots) (behind-head (length s.rows) ∙ drop-append_seam s.rows (entries v s.channels))
        ∙ ap (λ (n : ℕ). channels_in v n (entries v s.channels)) (sym F.size)
        ∙ channels-back s.channels F.slot in
        rw (count, edition, order, position, column, mask, visit, rows, channels, keep_mask F.part F.once, visit-back s.scan.visit F.visit-fits)

    pub version-back : v < 256 → version_in (image_of v s) ≡ v
    unfolding image_of
    version-back l = part-back (head_parts v s) 0 (lists v s) (omega arith) l
