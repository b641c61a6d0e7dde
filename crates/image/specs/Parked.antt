-- What the writer and the reader leave: the answer, the bytes of the lent memory, and those of the buffer that the writer is lent.
use Rattle.std.specs.Prelude.{ℕ, true, cond, List, eqb, ltb, length}
use Rattle.std.proofs.Math.Option.{Option, none, some}
use Rattle.octets.specs.Writing.{written}
use Rattle.answers.specs.Answer.{unsound, parked, bad_image, short_buffer, Answer, refused, given}
use Rattle.rules.specs.State.{State, with_mark}
use Rattle.memory.specs.Layout.{bytes_of, memory_of, memory_length}
use Rattle.memory.specs.Reading.{state_of}
use Rattle.memory.specs.Memory.{sound_bytes, Left}
use Rattle.image.specs.Image.{image_of}
use Rattle.image.specs.Reading.{image_state}

abbrev pub leaving : {A : Type 0} → Answer A → List ℕ → Left A
leaving a b = record { answer = a; bytes = b }

pub record Parked : Type 0 where
  pub answer : Answer ℕ
  pub state : List ℕ
  pub image : List ℕ

abbrev pub parking : Answer ℕ → List ℕ → List ℕ → Parked
parking a b buffer = record { answer = a; state = b; image = buffer }

-- "The writer answers the image's length and keeps the buffer's other bytes." "After writing, the state is parked": it differs by the mark alone.
-- "16 from the writer for a buffer too short": nothing is parked then, and nothing is written
abbrev pub stored_as : (State → List ℕ) → List ℕ → List ℕ → List ℕ → Parked
stored_as f bytes b buffer =
    cond (ltb (length buffer) (length bytes)) (parking (refused short_buffer) b buffer)
    (parking (given (length bytes)) (f (with_mark (state_of b) true)) (written buffer 0 bytes))

abbrev pub stored : List ℕ → List ℕ → List ℕ → Parked
stored bytes b buffer = stored_as memory_of bytes b buffer

-- the same of the base, which the writer's steps are lent
abbrev pub stored_base : List ℕ → List ℕ → List ℕ → Parked
stored_base bytes b buffer = stored_as bytes_of bytes b buffer

-- the writer of a version, on a lent memory and a buffer: 10, then "14 parked", then 16
unfoldable pub park_on : ℕ → List ℕ → List ℕ → Parked
park_on v b buffer =
    cond (sound_bytes b)
    (cond (state_of b).parked (parking (refused parked) b buffer) (stored (image_of v (state_of b)) b buffer))
    (parking (refused unsound) b buffer)

-- "The reader overwrites any lent state of the right length"; "10 from the reader for length alone, then 15 for an image that isn't exactly one sound state's"
abbrev pub overwritten : List ℕ → Option State → Left (Unit {0})
overwritten b none = leaving (refused bad_image) b
overwritten b (some s) = leaving (given tt) (memory_of s)

unfoldable pub read_on : List ℕ → List ℕ → Left (Unit {0})
read_on image b = cond (eqb (length b) memory_length) (overwritten b (image_state image)) (leaving (refused unsound) b)
