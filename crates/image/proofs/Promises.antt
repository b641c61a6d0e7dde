-- What the contracts of the writer and the reader say together.
use Prim.Native.Nat.{ℕ, ◌+◌, ◌≤◌}
use mathlib.Core.Path.{◌≡◌, refl, sym, ap, ◌∙◌}
use mathlib.Core.Bool.{true, false}
use mathlib.Core.List.{List}
use lib.ListN.{length, take, drop}
use lib.Seq.{take-append_seam}
use borrow.Author.Tests.{eq-eqb, le-ltb}
use Rattle.answers.specs.Answer.{Answer, refused, given}
use Rattle.memory.specs.Layout.{memory_length}
use Rattle.memory.specs.Memory.{sound_bytes}
use Rattle.memory.specs.Reading.{state_of}
use Rattle.memory.proofs.OneMemory.{memory-sound}
use Rattle.image.specs.Image.{image_of}
use Rattle.image.specs.Reading.{known}
use Rattle.image.specs.Parked.{leaving, Parked, stored, park_on, read_on}
use Rattle.image.proofs.Images.{Image, image_reads}
use Rattle.image.proofs.HeadLaws.{park_stored}

-- the bytes that the writer says are the image: as many of the buffer as it answers
abbrev pub answered : Answer ℕ → ℕ
answered (refused r) = 0
answered (given n) = n

abbrev pub image_left : Parked → List ℕ
image_left x = take (answered x.answer) x.image

stored-left : (bytes m buffer : List ℕ) → length bytes ≤ length buffer → image_left (stored bytes m buffer) ≡ bytes
stored-left bytes m buffer room = rw (le-ltb (length buffer) (length bytes) room) (take-append_seam bytes (drop (0 + length bytes) buffer))

-- "Reading what was written gives the same state": a sound memory that is parked into a buffer with room and read back into any memory of the right length is
-- the same, byte for byte
pub parked_reads : (v : ℕ) (m buffer b : List ℕ) → known v ≡ true → sound_bytes m ≡ true → (state_of m).parked ≡ false → length (image_of v (state_of m)) ≤ length buffer
    → length b ≡ memory_length → read_on (image_left (park_on v m buffer)) b ≡ leaving (given tt) m
unfolding read_on
parked_reads v m buffer b k sound open-yet room size =
    let I : Image v (state_of m) (image_of v (state_of m)) = record { version = k; state = (memory-sound m sound).state; unmarked = open-yet; bytes = refl } in
    let image : image_left (park_on v m buffer) ≡ image_of v (state_of m) = ap image_left (sym (park_stored v m buffer sound open-yet)) ∙ stored-left (image_of v (state_of m)) m buffer room in
    rw (image, eq-eqb (length b) memory_length size, image_reads I) (ap (leaving (given tt)) (memory-sound m sound).bytes)
