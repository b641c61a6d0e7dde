-- The image of a sound base: what its head says, how long it is, and what its three stretches are in the memory.
use mathlib.Core.Path.{◌≡◌, refl, sym, ap, ◌∙◌, subst}
use mathlib.Core.Bool.{Bool, true, false, cond}
use mathlib.Core.List.{List, [], ◌∷◌, ◌++◌}
use Prim.Native.Nat.{ℕ, ◌+◌, ◌-◌, ◌≤◌, ◌<◌}
use native.Mathlib.Omega.{arith}
use lib.Dec.{ltb}
use lib.ListN.{length, get_or, take, take-append-drop, length-append}
use lib.Seq.{length-take-le, get_or-take}
use borrow.Author.Tests.{lt-ltb, le-ltb}
use Rattle.lists.specs.Tabs.{tab}
use Rattle.lists.proofs.TabLaws.{length-tab, tab-is}
use Rattle.octets.specs.Writing.{written, Written}
use Rattle.bits.specs.Mask.{mask_of}
use Rattle.answers.specs.Answer.{Answer, unsound, parked, short_buffer, refused, given}
use Rattle.rules.specs.Numbers.{slots}
use Rattle.rules.specs.State.{State, with_mark}
use Rattle.memory.specs.Names as the
use Rattle.memory.specs.Fits.{Fits}
use Rattle.memory.specs.Reading.{byte_in, slot_in_visit, first_at, channel_at, row_count_at, mask_at, state_of}
use Rattle.memory.specs.Layout.{bytes_of, memory_of, base_length}
use Rattle.memory.specs.Memory.{base, noted, sound_bytes, sound_base}
use Rattle.memory.specs.Point.{scan_at}
use Rattle.memory.specs.declared.point.Scan.{Scan}
use Rattle.memory.proofs.Fitting.{rows_few}
use Rattle.memory.proofs.Lanes.{mask_is}
use Rattle.memory.proofs.SoundFits.{sound-fits}
use Rattle.memory.proofs.OneMemory.{base-sound, base-stands, noted-is}
use Rattle.image.specs.Parts.{part, laid}
use Rattle.image.specs.declared.parts.Part.{Part}
use Rattle.image.specs.Image.{wide, visit_byte, entries, following, head_parts, lists, image_of, image_length}
use Rattle.image.specs.Parked.{Parked, parking, stored, stored_base, park_on}
use Rattle.image.proofs.PartLaws.{length-laid}
use Rattle.image.proofs.Lengths.{length-image}
use Rattle.image.proofs.EntryLaws.{length-run_to, sound-size}

-- the parts of a head, as its numbers are read off a memory
abbrev pub head_read : ℕ → ℕ → ℕ → ℕ → Scan → ℕ → List Part
head_read v n edition order p count =
    part 1 v
    ∷ part 4 n
    ∷ part 1 edition
    ∷ part 1 order
    ∷ part (wide v) p.position
    ∷ part 1 p.column
    ∷ part 8 p.mask
    ∷ part 1 (visit_byte (slot_in_visit p.visit))
    ∷ part 1 count
    ∷ []

-- "what follows" is all but the first five bytes
following-length : (v : ℕ) (s : State) → length (image_of v s) ≡ 5 + following v s
unfolding image_of
following-length v s = omega (arith, length-append (laid (head_parts v s)) (lists v s), length-laid (head_parts v s))

module _ (m : List ℕ) (e : sound_base m ≡ true) where
  fits : Fits (state_of m)
  fits = sound-fits (base-sound m e).state

  count-read : length (state_of m).rows ≡ row_count_at m
  unfolding state_of
  count-read = length-tab (row_count_at m) (byte_in the.rows m)

  pub count-few : row_count_at m ≤ slots
  count-few = omega (arith, count-read, rows_few fits)

  mask-read : mask_of (state_of m).scan.to_visit ≡ mask_at m
  mask-read = sym (subst (λ (b : List ℕ). mask_at b ≡ mask_of (state_of m).scan.to_visit) (base-sound m e).bytes (mask_is fits))

  rows-read : take (row_count_at m) m ≡ (state_of m).rows
  unfolding state_of
  rows-read =
      let few : row_count_at m ≤ length m = omega (arith, count-few, sound-size m e) in
      let read : (i : ℕ) → i < row_count_at m → byte_in the.rows m i ≡ get_or (take (row_count_at m) m) i 0
      = λ i l. let e : 0 + i ≡ i = omega arith in rw e (sym (get_or-take (row_count_at m) m i 0 l)) in
      sym (tab-is (row_count_at m) (byte_in the.rows m) (take (row_count_at m) m) 0 (length-take-le (row_count_at m) m few) read)

  pub head-is : (v n : ℕ) → n ≡ length (image_of v (state_of m)) → head_read v (n - 5) (byte_in the.edition m 0) (state_of m).order (scan_at m) (row_count_at m) ≡ head_parts v (state_of m)
  unfolding state_of
  head-is v n l =
      let size : n - 5 ≡ following v (state_of m) = omega (arith, following-length v (state_of m)) in
      let count = count-read in
      let mask = mask-read in
      rw (size, count, mask)

  pub length-read : (v : ℕ) → length (image_of v (state_of m)) ≡ image_length v (row_count_at m) (first_at m slots)
  unfolding state_of
  length-read v = omega (arith, length-image v fits, count-read, length-run_to m slots)

  -- head, rows and entries
  pub image-is : (v : ℕ) → laid (head_parts v (state_of m)) ++ (take (row_count_at m) m ++ entries v (tab slots (channel_at m))) ≡ image_of v (state_of m)
  unfolding image_of lists state_of
  image-is v = rw rows-read refl

-- ---- the writer's ways out

-- on the base: a buffer too short, and one with room
module _ (image m buffer : List ℕ) where
  pub stored_short : length buffer < length image → parking (refused short_buffer) m buffer ≡ stored_base image m buffer
  stored_short l = rw (lt-ltb (length buffer) (length image) l)

  pub stored-given : length image ≤ length buffer → (n : ℕ) → n ≡ length image → {p : ℕ} {after left : List ℕ} → Written buffer 0 image p after
      → left ≡ bytes_of (with_mark (state_of m) true) → parking (given n) left after ≡ stored_base image m buffer
  stored-given l n size W mark = rw (le-ltb (length buffer) (length image) l, size, W.buffer, mark)

-- and on the whole
module _ (v : ℕ) (m buffer : List ℕ) where
  pub park_unsound : sound_bytes m ≡ false → parking (refused unsound) m buffer ≡ park_on v m buffer
  unfolding park_on
  park_unsound e = rw e

  pub park_twice : sound_bytes m ≡ true → (state_of m).parked ≡ true → parking (refused parked) m buffer ≡ park_on v m buffer
  unfolding park_on
  park_twice e p = rw (e, p)

  module _ (e : sound_bytes m ≡ true) (open-yet : (state_of m).parked ≡ false) where
    abbrev image : List ℕ
    image = image_of v (state_of m)

    pub park_stored : stored image m buffer ≡ park_on v m buffer
    unfolding park_on
    park_stored =
        ap (λ (t : Bool). cond t (parking (refused parked) m buffer) (stored image m buffer)) (sym open-yet)
        ∙ ap (λ (t : Bool). cond t (cond (state_of m).parked (parking (refused parked) m buffer) (stored image m buffer)) (parking (refused unsound) m buffer)) (sym e)

    -- what is left of the base goes before the notes, which stay: the mark changes no channel
    abbrev before-notes : Parked → Parked
    before-notes x = parking x.answer (x.state ++ noted m) x.image

    marked-notes : bytes_of (with_mark (state_of (base m)) true) ++ noted m ≡ memory_of (with_mark (state_of m) true)
    unfolding memory_of
    marked-notes = rw (base-stands m e, noted-is m e) refl

    stored-notes : before-notes (stored_base image (base m) buffer) ≡ stored image m buffer
    stored-notes = go (ltb (length buffer) (length image))
      where
        go : (t : Bool)
            → before-notes (cond t (parking (refused short_buffer) (base m) buffer) (parking (given (length image)) (bytes_of (with_mark (state_of (base m)) true)) (written buffer 0 image)))
            ≡ cond t (parking (refused short_buffer) m buffer) (parking (given (length image)) (memory_of (with_mark (state_of m) true)) (written buffer 0 image))
        go true = ap (λ (b : List ℕ). parking (refused short_buffer) b buffer) (take-append-drop base_length m)
        go false = ap (λ (b : List ℕ). parking (given (length image)) b (written buffer 0 image)) marked-notes

    pub park_left : {a : Answer ℕ} {left after : List ℕ} → parking a left after ≡ stored_base (image_of v (state_of (base m))) (base m) buffer
        → parking a (left ++ noted m) after ≡ park_on v m buffer
    park_left q = ap before-notes (q ∙ ap (λ (s : State). stored_base (image_of v s) (base m) buffer) (base-stands m e)) ∙ stored-notes ∙ park_stored
