-- The rows passed are in the memory.
use Rattle.std.proofs.Common.{◌≡◌, [], take}
use Rattle.rules.specs.State.{State}
use Rattle.memory.specs.Edits.{with_rows}
use Rattle.lists.specs.Slots.{Once, NoneFrom}
use Rattle.rules.specs.Numbers.{slots}
use Rattle.memory.specs.Fits.{Fits}
use Rattle.memory.specs.Layout.{bytes_of}
use Rattle.reader.proofs.decode.read_rows.Given as goal

abbrev pub invariant-loop-slot : goal.invariant-loop-slot
invariant-loop-slot l =
    (s : State) → Once l.rows → NoneFrom slots l.rows → Fits (with_rows s []) → l.initial.memory ≡ bytes_of (with_rows s [])
    → Fits (with_rows s (take l.slot-index l.rows)) × (l.memory ≡ bytes_of (with_rows s (take l.slot-index l.rows)))
