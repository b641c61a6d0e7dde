-- The bytes waiting are two bytes of the notes, one in each of the field's two lines.
use Prim.Native.Nat.{ℕ, ◌+◌, ◌*◌, ◌<◌}
use mathlib.Core.Path.{◌≡◌}
use mathlib.Core.List.{List}
use native.Mathlib.Omega.{arith}
use lib.ListN.{get_or}
use Rattle.octets.specs.Number.{upward, Bytes}
use Rattle.octets.proofs.NumberLaws.{num-one, num-upward}
use Rattle.rules.specs.Numbers.{slots}
use Rattle.memory.specs.Names as the
use Rattle.memory.specs.Layout.{note_place}
use Rattle.memory.specs.Reading.{bytes_at}

abbrev pub low_at : List ℕ → ℕ → ℕ
low_at b i = get_or b (note_place the.bytes + i) 0

abbrev pub high_at : List ℕ → ℕ → ℕ
high_at b i = get_or b (note_place the.bytes + slots + i) 0

pub bytes_read : (b : List ℕ) (i : ℕ) → bytes_at b i ≡ low_at b i + 256 * high_at b i
unfolding bytes_at
bytes_read b i =
    omega (
      arith,
      num-upward (note_place the.bytes + i) slots 1 1 b,
      num-one (upward (note_place the.bytes + i) slots) (note_place the.bytes + i) b (omega arith),
      num-one (upward (note_place the.bytes + i + 1 * slots) slots) (note_place the.bytes + slots + i) b (omega arith),
    )

pub bytes_fit : (b : List ℕ) (i : ℕ) → Bytes b → bytes_at b i < 65536
bytes_fit b i h = omega (arith, bytes_read b i, h (note_place the.bytes + i), h (note_place the.bytes + slots + i))
