-- The state that an image stands for. One reading for all versions: the version is the first byte, and the widths are that version's.
use Rattle.std.specs.Prelude.{ℕ, zero, suc, ◌+◌, ◌*◌, Bool, false, not, cond, ◌&&◌, List, [], ◌∷◌, eqb, take, drop}
use Rattle.std.proofs.Math.Option.{Option, none, some}
use Rattle.spread.specs.Limits.{outside}
use Rattle.rules.specs.Numbers.{falling, slots}
use Rattle.rules.specs.State.{Record, Channel, State, blank, fresh}
use Rattle.rules.specs.Sound.{sound}
use Rattle.memory.specs.Reading.{kind_of, in_mask}
use Rattle.memory.specs.Memory.{same}
use Rattle.image.specs.Parts.{widths, span, part_in}
use Rattle.image.specs.Image.{record_bytes, record_parts, slot_parts, head_parts, image_of}

-- the widths of a record, of a slot's entry and of the head: whatever the numbers are
abbrev pub record_widths : List ℕ
record_widths = widths (record_parts (record { length = 0; reference = 0 }))

abbrev pub slot_widths : ℕ → List ℕ
slot_widths v = widths (slot_parts v blank)

abbrev pub head_widths : ℕ → List ℕ
head_widths v = widths (head_parts v (fresh falling))

-- ---- reading, on any bytes

abbrev pub record_in : List ℕ → Record
record_in b = record { length = part_in record_widths 0 b; reference = part_in record_widths 1 b }

unfoldable pub records_in : ℕ → List ℕ → List Record
records_in zero b = []
records_in (suc n) b = record_in b ∷ records_in n (drop record_bytes b)

-- "number of records"
abbrev pub waiting_in : ℕ → List ℕ → ℕ
waiting_in v b = part_in (slot_widths v) 6 b

unfoldable pub channel_in : ℕ → List ℕ → Channel
channel_in v b =
    record {
      kind = kind_of (part_in (slot_widths v) 1 b);
      ticket = part_in (slot_widths v) 2 b;
      weight = part_in (slot_widths v) 3 b;
      deficit = part_in (slot_widths v) 4 b;
      serial = part_in (slot_widths v) 5 b;
      waiting = records_in (waiting_in v b) (drop (span (slot_widths v)) b);
    }

-- the first n slots' entries, one after the other
unfoldable pub channels_in : ℕ → ℕ → List ℕ → List Channel
channels_in v zero b = []
channels_in v (suc n) b = channel_in v b ∷ channels_in v n (drop (span (slot_widths v) + record_bytes * waiting_in v b) b)

abbrev pub visit_in : ℕ → Option ℕ
visit_in n = cond (eqb n 255) none (some n)

-- "the number of rows, then their slots"
abbrev pub row_count_in : ℕ → List ℕ → ℕ
row_count_in v b = part_in (head_widths v) 8 b

-- (an image does not carry the mark: "the state read isn't parked")
unfoldable pub state_in : ℕ → List ℕ → State
state_in v b =
    let rows : List ℕ = take (row_count_in v b) (drop (span (head_widths v)) b) in
    record {
      edition = part_in (head_widths v) 2 b;
      channels = channels_in v slots (drop (span (head_widths v) + row_count_in v b) b);
      rows = rows;
      order = part_in (head_widths v) 3 b;
      scan = record {
        position = part_in (head_widths v) 4 b;
        column = part_in (head_widths v) 5 b;
        to_visit = in_mask (part_in (head_widths v) 6 b) rows;
        visit = visit_in (part_in (head_widths v) 7 b);
      };
      parked = false;
    }

-- ---- an image that is exactly one sound state's

-- the versions that are read and written are 1 to this one
abbrev pub newest : ℕ
newest = 1

abbrev pub known : ℕ → Bool
known v = not (outside 1 newest v)

-- the version stands first, in every version
abbrev pub version_in : List ℕ → ℕ
version_in b = part_in (head_widths newest) 0 b

-- the version is known, the state read is sound, and the bytes are that state's image
unfoldable pub sound_image : List ℕ → Bool
sound_image b = known (version_in b) && (sound (state_in (version_in b) b) && same (image_of (version_in b) (state_in (version_in b) b)) b)

unfoldable pub image_state : List ℕ → Option State
image_state b = cond (sound_image b) (some (state_in (version_in b) b)) none
