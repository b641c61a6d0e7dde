-- The parked image of a state (02 §6), in a version: its parts in 02's order, each under 02's words.
use Rattle.std.specs.Prelude.{ℕ, ◌+◌, ◌-◌, ◌*◌, List, [], ◌∷◌, ◌++◌, length}
use Rattle.std.proofs.Math.Option.{Option, none, some}
use Rattle.bits.specs.Mask.{mask_of}
use Rattle.rules.specs.Numbers.{slots, cells}
use Rattle.rules.specs.State.{Record, Channel, State, kind_number}
use Rattle.image.specs.Parts.{part, widths, laid, span}
use Rattle.image.specs.declared.parts.Part.{Part}

-- What a version changes is widths alone. P and weights take 2 bytes in version 1 and 4 in version 2; the length before a slot's entry takes none in version 1
-- and 2 in version 2. A part of no bytes is not there.
abbrev pub wide : ℕ → ℕ
wide v = 2 * v

abbrev pub length_width : ℕ → ℕ
length_width v = 2 * v - 2

-- ---- a slot's entry

-- "each record's length (2) and reference (4)"
abbrev pub record_parts : Record → List Part
record_parts r = part 2 r.length ∷ part 4 r.reference ∷ []

abbrev pub record_bytes : ℕ
record_bytes = 6

unfoldable pub records_bytes : List Record → List ℕ
records_bytes [] = []
records_bytes (r ∷ rs) = laid (record_parts r) ++ records_bytes rs

-- an entry's length, without the bytes that say it: its fixed bytes, and its records'
abbrev pub entry_length : ℕ → Channel → ℕ
entry_length v c = 10 + wide v + record_bytes * length c.waiting

-- "kind (0 free, 1 open, 2 closing), ticket (4 bytes), weight, deficit, next serial (2 each), number of records"
abbrev pub slot_parts : ℕ → Channel → List Part
slot_parts v c =
    part (length_width v) (entry_length v c)
    ∷ part 1 (kind_number c.kind)
    ∷ part 4 c.ticket
    ∷ part (wide v) c.weight
    ∷ part 2 c.deficit
    ∷ part 2 c.serial
    ∷ part 1 (length c.waiting)
    ∷ []

-- the bytes of an entry but its records
abbrev pub fixed : ℕ → ℕ
fixed v = length_width v + (10 + wide v)

unfoldable pub entry : ℕ → Channel → List ℕ
entry v c = laid (slot_parts v c) ++ records_bytes c.waiting

-- "then the 64 slots in turn"
unfoldable pub entries : ℕ → List Channel → List ℕ
entries v [] = []
entries v (c ∷ cs) = entry v c ++ entries v cs

-- ---- the image

-- "the slot in visit or 255"
abbrev pub visit_byte : Option ℕ → ℕ
visit_byte none = 255
visit_byte (some i) = i

-- "edition; order; P in two bytes; column; eight bytes with bit s set for each slot s still to visit; the slot in visit or 255; the number of rows"
abbrev pub scan_parts : ℕ → State → List Part
scan_parts v s =
    part 1 s.edition
    ∷ part 1 s.order
    ∷ part (wide v) s.scan.position
    ∷ part 1 s.scan.column
    ∷ part 8 (mask_of s.scan.to_visit)
    ∷ part 1 (visit_byte s.scan.visit)
    ∷ part 1 (length s.rows)
    ∷ []

-- "then their slots; then the 64 slots in turn"
unfoldable pub lists : ℕ → State → List ℕ
lists v s = s.rows ++ entries v s.channels

abbrev pub following : ℕ → State → ℕ
following v s = span (widths (scan_parts v s)) + length (lists v s)

-- "version byte 1; four bytes, the length of what follows"
abbrev pub head_parts : ℕ → State → List Part
head_parts v s = part 1 v ∷ part 4 (following v s) ∷ scan_parts v s

unfoldable pub image_of : ℕ → State → List ℕ
image_of v s = laid (head_parts v s) ++ lists v s

-- ---- lengths

-- an image's with so many rows and records, and the longest: each slot is a row and every cell is in use
abbrev pub image_length : ℕ → ℕ → ℕ → ℕ
image_length v rows records = 18 + wide v + rows + slots * fixed v + record_bytes * records

abbrev pub longest_image : ℕ → ℕ
longest_image v = image_length v slots cells
