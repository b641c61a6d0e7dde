-- The longest image there is: each slot a row, and every cell in use.
use Prim.Native.Nat.{ℕ, ◌/◌}
use mathlib.Core.Path.{◌≡◌, refl}
use mathlib.Core.Bool.{true, false}
use mathlib.Core.List.{[]}
use mathlib.Core.Option.{none}
use lib.ListN.{length, replicate}
use Rattle.bits.specs.Bit.{bit}
use Rattle.bits.specs.Order.{order}
use Rattle.lists.specs.Tabs.{tab}
use Rattle.rules.specs.Numbers.{slots, cells, falling}
use Rattle.rules.specs.State.{opened, Channel, State, order_of, column_of, shared_use, round_over}
use Rattle.rules.specs.Sound.{sound}
use Rattle.rules.specs.Facts.{Sound}
use Rattle.rules.proofs.Tested.{sound_facts}
use Rattle.memory.specs.Layout.{run_of}
use Rattle.memory.proofs.SoundFits.{sound-fits}
use Rattle.image.specs.Image.{image_of, longest_image}
use Rattle.image.proofs.Lengths.{length-image}

-- a channel with its share of the cells, and the state with such a channel in every slot
abbrev pub sharing : Channel
sharing =
    record { kind = opened; ticket = 1; weight = 1; deficit = 0; serial = 0; waiting = replicate (cells / slots) (record { length = 1; reference = 0 }) }

abbrev pub crowded : State
crowded =
    record {
      edition = falling;
      channels = replicate slots sharing;
      rows = tab slots (λ i. i);
      order = 1;
      scan = record { position = 0; column = 0; to_visit = []; visit = none };
      parked = false;
    }

pub crowded-sound : Sound crowded
unfolding sound order_of column_of shared_use round_over tab order bit
crowded-sound = let e : sound crowded ≡ true = refl in sound_facts crowded e

-- its image is as long as one can be: 3,924 bytes in version 1
pub crowded-longest : (v : ℕ) → length (image_of v crowded) ≡ longest_image v
unfolding run_of tab
crowded-longest v = length-image v (sound-fits crowded-sound)

pub longest-is : longest_image 1 ≡ 3924
longest-is = refl
