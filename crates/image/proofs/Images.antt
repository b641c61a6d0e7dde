-- An image reads exactly where it is a sound state's, and then as that state: each sound state has one image in each version, and each image is of one
-- state and one version.
use Prim.Native.Nat.{ℕ, ◌≤◌}
use mathlib.Core.Path.{◌≡◌, refl, sym, ap, ◌∙◌, subst}
use mathlib.Core.Bool.{Bool, true, false, cond, ◌&&◌}
use mathlib.Core.List.{List}
use mathlib.Core.Option.{none, some}
use native.Mathlib.Omega.{arith}
use borrow.Author.Tests.{not-true}
use Rattle.spread.specs.Limits.{outside}
use Rattle.spread.proofs.Limits.{between}
use Rattle.rules.specs.State.{State, with_mark}
use Rattle.rules.specs.Sound.{sound}
use Rattle.rules.specs.Facts.{Sound}
use Rattle.rules.proofs.Tested.{sound_facts, facts_sound}
use Rattle.lists.proofs.TestLaws.{and-true, true-and}
use Rattle.memory.specs.Memory.{same}
use Rattle.memory.proofs.OneMemory.{same_true, true_same}
use Rattle.memory.proofs.SoundFits.{sound-fits}
use Rattle.image.specs.Image.{image_of}
use Rattle.image.specs.Reading.{state_in, newest, version_in, known, sound_image, image_state}
use Rattle.image.proofs.RoundTrip.{state-back, version-back}

-- b is the image in version v of the sound state s, which is not parked: an image does not carry the mark
pub record Image (v : ℕ) (s : State) (b : List ℕ) : Type 0 where
  pub version : known v ≡ true
  pub state : Sound s
  pub unmarked : s.parked ≡ false
  pub bytes : b ≡ image_of v s

pub known_range : (v : ℕ) → known v ≡ true → (1 ≤ v) × (v ≤ newest)
known_range v e = between 1 newest v (not-true (outside 1 newest v) e)

module _ {v : ℕ} {s : State} {b : List ℕ} (I : Image v s b) where
  pub image-version : version_in b ≡ v
  image-version =
      let (low, high) = known_range v I.version in
      rw I.bytes (version-back v low (sound-fits I.state) (omega arith))

  image-state_in : state_in (version_in b) b ≡ s
  image-state_in =
      rw (image-version, I.bytes) (state-back v (known_range v I.version).0 (sound-fits I.state)) ∙ ap (with_mark s) (sym I.unmarked)

  pub image-sound : sound_image b ≡ true
  unfolding sound_image
  image-sound =
      rw (image-state_in, image-version, ← I.bytes) (true-and I.version (true-and (facts_sound s I.state) (true_same b)))

  -- "Reading what was written gives the same state"
  pub image_reads : image_state b ≡ some s
  unfolding image_state
  image_reads = rw (image-sound, image-state_in)

-- and nothing else reads
pub sound-image : (b : List ℕ) → sound_image b ≡ true → Image (version_in b) (state_in (version_in b) b) b
unfolding sound_image state_in
sound-image b e =
    let s = state_in (version_in b) b in
    let (version, more) = and-true (known (version_in b)) (sound s && same (image_of (version_in b) s) b) e in
    let (state, bytes) = and-true (sound s) (same (image_of (version_in b) s) b) more in
    record { version = version; state = sound_facts s state; unmarked = refl; bytes = sym (same_true (image_of (version_in b) s) b bytes) }

some_same : {A : Type 0} (t : Bool) (x y : A) → cond t (some x) none ≡ some y → (t ≡ true) × (x ≡ y)
some_same true x y e = (refl, cc)
some_same false x y e = absurd (let z : ◌≡◌ {A = ℕ} 0 1 = cc in omega arith)

pub reads_image : (b : List ℕ) (s : State) → image_state b ≡ some s → Image (version_in b) s b
unfolding image_state
reads_image b s e =
    let (good, state) = some_same (sound_image b) (state_in (version_in b) b) s e in
    subst (λ (x : State). Image (version_in b) x b) state (sound-image b good)

-- bytes that are no sound state's image do not read
pub no_image : (b : List ℕ) → ((v : ℕ) (s : State) → Image v s b → ⊥) → image_state b ≡ none
unfolding image_state
no_image b h = go (sound_image b) refl
  where
    go : (t : Bool) → sound_image b ≡ t → cond t (some (state_in (version_in b) b)) none ≡ none
    go true e = absurd (h (version_in b) (state_in (version_in b) b) (sound-image b e))
    go false e = refl

-- "each sound state has one image": in each version one, and no two states and no two versions have the same
pub one-image : {v : ℕ} {s : State} {b b' : List ℕ} → Image v s b → Image v s b' → b ≡ b'
one-image I J = I.bytes ∙ sym J.bytes

pub one_state : {v v' : ℕ} {s s' : State} {b : List ℕ} → Image v s b → Image v' s' b → s ≡ s'
one_state I J = let e = image_reads I in let f = image_reads J in cc

pub one-version : {v v' : ℕ} {s s' : State} {b : List ℕ} → Image v s b → Image v' s' b → v ≡ v'
one-version I J = sym (image-version I) ∙ image-version J
