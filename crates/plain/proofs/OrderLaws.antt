-- What the search for the order needs of a memory, and the order that may rise.
use Prim.Native.Nat.{ℕ}
use mathlib.Core.Path.{◌≡◌, sym, subst}
use mathlib.Core.List.{List}
use Rattle.memory.specs.Layout.{bytes_of}
use Rattle.memory.specs.Reading.{state_of}
use Rattle.memory.specs.Fits.{Fits}
use Rattle.memory.specs.Search.{RowsWithin}
use Rattle.memory.proofs.SearchLaws.{rows-within}

-- the memory of a state that fits has its rows within the slots
pub rows-held : {b : List ℕ} → Fits (state_of b) → b ≡ bytes_of (state_of b) → RowsWithin b
rows-held F e = subst RowsWithin (sym e) (rows-within F)
