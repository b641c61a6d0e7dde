-- Images byte by byte: the fresh state's head, a free slot's entry and an open one's, and the head of a state in the middle of a scan.
use mathlib.Core.Path.{◌≡◌, refl}
use mathlib.Core.Bool.{false}
use mathlib.Core.List.{[], ◌∷◌}
use mathlib.Core.Option.{some}
use lib.ListN.{take, replicate}
use Rattle.bits.specs.Bit.{bit, with_bit}
use Rattle.bits.specs.Mask.{mask_of}
use Rattle.rules.specs.Numbers.{slots, falling, holding}
use Rattle.rules.specs.State.{opened, fresh, blank}
use Rattle.image.specs.Parts.{high_first, laid}
use Rattle.image.specs.Image.{records_bytes, entry, entries, lists, image_of}

-- version, the length of what follows (783), edition, order, P, column, eight bytes of slots to visit, no visit, no rows
fresh-head : take 20 (image_of 1 (fresh holding)) ≡ 1 ∷ 0 ∷ 0 ∷ 3 ∷ 15 ∷ 2 ∷ 0 ∷ 0 ∷ 0 ∷ 0 ∷ 0 ∷ 0 ∷ 0 ∷ 0 ∷ 0 ∷ 0 ∷ 0 ∷ 0 ∷ 255 ∷ 0 ∷ []
unfolding image_of lists entries entry records_bytes laid high_first fresh mask_of
fresh-head = refl

free-entry : entry 1 blank ≡ replicate 12 0
unfolding entry records_bytes laid high_first
free-entry = refl

-- kind, ticket 66,051, weight 4,095, deficit 1,023, next serial 258, one record: length 1,014, reference 16,909,060
open_entry : entry 1
    (record {
      kind = opened;
      ticket = 66051;
      weight = 4095;
      deficit = 1023;
      serial = 258;
      waiting = record { length = 1014; reference = 16909060 } ∷ [];
    })
    ≡ 1 ∷ 0 ∷ 1 ∷ 2 ∷ 3 ∷ 15 ∷ 255 ∷ 3 ∷ 255 ∷ 1 ∷ 2 ∷ 1 ∷ 3 ∷ 246 ∷ 1 ∷ 2 ∷ 3 ∷ 4 ∷ []
unfolding entry records_bytes laid high_first
open_entry = refl

-- 786 bytes follow; P is 258; slots 9 and 0 are still to visit, and slot 0 is the lowest bit of the last of the eight bytes; slot 3 is in visit; three rows
busy_head : take 23
    (image_of 1
    (record {
      edition = falling;
      channels = replicate slots blank;
      rows = 3 ∷ 9 ∷ 0 ∷ [];
      order = 9;
      scan = record { position = 258; column = 5; to_visit = 9 ∷ 0 ∷ []; visit = some 3 };
      parked = false;
    }))
    ≡ 1 ∷ 0 ∷ 0 ∷ 3 ∷ 18 ∷ 1 ∷ 9 ∷ 1 ∷ 2 ∷ 5 ∷ 0 ∷ 0 ∷ 0 ∷ 0 ∷ 0 ∷ 0 ∷ 2 ∷ 1 ∷ 3 ∷ 3 ∷ 3 ∷ 9 ∷ 0 ∷ []
unfolding image_of lists entries entry records_bytes laid high_first mask_of with_bit bit
busy_head = refl
