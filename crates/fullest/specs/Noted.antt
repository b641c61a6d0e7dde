-- A memory whose notes are right for the bytes f that wait in the slots, whatever its base says; and those bytes with one slot's changed.
use Rattle.std.specs.Prelude.{ℕ, ◌<◌, ◌≡◌, cond, List, eqb, length}
use Rattle.memory.specs.Layout.{notes_by, memory_length}
use Rattle.memory.specs.Memory.{noted}

pub record NotedBy (f : ℕ → ℕ) (b : List ℕ) : Type 0 where
  pub size : length b ≡ memory_length
  pub small : (i : ℕ) → f i < 65536
  pub notes : noted b ≡ notes_by f

-- some bytes are those that the notes are right for
pub record Noted (b : List ℕ) : Type 0 where
  pub bytes : ℕ → ℕ
  pub right : NotedBy bytes b

-- v bytes wait in slot i, and in every other slot as before
abbrev pub now_in : (ℕ → ℕ) → ℕ → ℕ → ℕ → ℕ
now_in f i v j = cond (eqb j i) v (f j)
