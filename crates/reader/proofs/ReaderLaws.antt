-- An image is good exactly where the memory built from it is sound and its own image is these bytes.
use Rattle.std.proofs.Common.{◌≡◌, ℕ, ◌+◌, ◌*◌, Bool, true, false, List, length, get_or, sym, refl, ap, ◌∙◌, arith, eq-eqb, ne_eqb}
use mathlib.Core.Bool.{false≢true}
use Rattle.answers.specs.Answer.{unsound, bad_image, refused, given}
use Rattle.rules.specs.State.{State, with_mark}
use Rattle.rules.specs.Facts.{Sound}
use Rattle.rules.proofs.ParkedKept.{mark-kept}
use Rattle.memory.specs.Layout.{memory_of, memory_length}
use Rattle.memory.specs.Memory.{same, sound_bytes}
use Rattle.memory.specs.Reading.{state_of}
use Rattle.memory.proofs.Base.{sound-state}
use Rattle.memory.proofs.OneMemory.{same_true, true_same, sound-memory, memory-sound}
use Rattle.image.specs.Parts.{as_number}
use Rattle.image.specs.Image.{lists, image_of}
use Rattle.image.specs.Reading.{version_in, known}
use Rattle.image.specs.Parked.{leaving, read_on}
use Rattle.reader.specs.Received.{Received}
use Rattle.image.proofs.Images.{Image, image-version, image_reads, no_image}

-- lists of two lengths are not the same
pub other_length : (a b : List ℕ) → (length a ≡ length b → ⊥) → false ≡ same a b
other_length a b h = go (same a b) refl
  where
    go : (t : Bool) → same a b ≡ t → false ≡ t
    go true e = absurd (h (ap length (same_true a b e)))
    go false e = refl

-- ---- good and bad images

module _ (image : List ℕ) (v : ℕ) (version : v ≡ get_or image 0 0) where
  version-is : version_in image ≡ v
  unfolding as_number
  version-is = let e : 256 * 0 + get_or image 0 0 ≡ get_or image 0 0 = omega arith in e ∙ sym version

  -- each image of the bytes is of this version
  of_version : (w : ℕ) (s : State) → Image w s image → Image v s image
  of_version w s I = let e : w ≡ v = sym (image-version I) ∙ version-is in rw e at I

  pub received-unknown : (m : List ℕ) → known v ≡ false → Received image false m
  received-unknown m h =
      record { received = no_image image (λ w s I. let J = of_version w s I in absurd (false≢true (sym h ∙ J.version))) }

  module _ (m : List ℕ) (built : (s : State) → Sound s → s.parked ≡ false → image ≡ image_of v s → m ≡ memory_of s) where
    -- a good image's memory is sound, and its image is these bytes
    good_memory : (s : State) → Image v s image → (sound_bytes m ≡ true) × (state_of m ≡ s)
    good_memory s I =
        let e : m ≡ memory_of s = built s I.state I.unmarked I.bytes in
        (rw e (sound-memory I.state), rw e (sound-state I.state))

    -- the memory built is not parked: it is that of the state without the mark, whose image is the same
    unmarked_built : sound_bytes m ≡ true → image ≡ image_of v (state_of m) → (state_of m).parked ≡ false
    unfolding image_of lists
    unmarked_built h e =
        let S = mark-kept false (memory-sound m h).state in
        let is : m ≡ memory_of (with_mark (state_of m) false) = built (with_mark (state_of m) false) S refl e in
        ap (λ (x : List ℕ). (state_of x).parked) is ∙ ap (λ (s : State). s.parked) (sound-state S)

    pub received-unsound : sound_bytes m ≡ false → Received image false m
    received-unsound h =
        record { received = no_image image (λ w s I. absurd (false≢true (sym h ∙ (good_memory s (of_version w s I)).0))) }

    pub received-sound : known v ≡ true → sound_bytes m ≡ true → (t : Bool) → t ≡ same (image_of v (state_of m)) image → Received image t m
    received-sound k h true e =
        let again : image ≡ image_of v (state_of m) = sym (same_true (image_of v (state_of m)) image (sym e)) in
        let I : Image v (state_of m) image = record { version = k; state = (memory-sound m h).state; unmarked = unmarked_built h again; bytes = again } in
        record { received = (state_of m, (memory-sound m h).state, image_reads I, sym (memory-sound m h).bytes) }
    received-sound k h false e = record { received = no_image image (λ w s I. bad w s (of_version w s I)) }
      where
        bad : (w : ℕ) (s : State) → Image v s image → ⊥
        bad w s I =
            let again : image_of v (state_of m) ≡ image = ap (image_of v) (good_memory s I).1 ∙ sym I.bytes in
            false≢true (e ∙ rw again (true_same image))

-- ---- the reader's three ways out

module _ (image b : List ℕ) where
  pub read-wrong : (length b ≡ memory_length → ⊥) → leaving (refused unsound) b ≡ read_on image b
  unfolding read_on
  read-wrong h = rw (ne_eqb (length b) memory_length h)

  pub read-bad : {m : List ℕ} → length b ≡ memory_length → Received image false m → leaving (refused bad_image) b ≡ read_on image b
  unfolding read_on
  read-bad e R = rw (eq-eqb (length b) memory_length e, R.received)

  pub read_good : {m : List ℕ} → length b ≡ memory_length → Received image true m → leaving (given tt) m ≡ read_on image b
  unfolding read_on
  read_good {m} e R =
      let (s, S, reads, memory) = R.received in
      rw (eq-eqb (length b) memory_length e, reads, memory)
