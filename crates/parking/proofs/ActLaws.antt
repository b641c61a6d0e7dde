-- One act: what the writer and the reader leave, case by case; a sound memory stays sound, and any keeps its length; a refusal keeps each byte; and a parked
-- memory stays as it is, unless a history begins there.
use Prim.Native.Nat.{ℕ, ◌≤◌}
use mathlib.Core.Path.{◌≡◌, refl, sym, ap, ◌∙◌}
use mathlib.Core.Bool.{Bool, true, false, not, cond, true≢false}
use mathlib.Core.List.{List, [], ◌∷◌}
use mathlib.Core.Option.{none, some}
use native.Mathlib.Omega.{arith}
use lib.Dec.{eqb, ltb}
use lib.ListN.{length}
use borrow.Author.Tests.{eqb-true, ltb-false, eq-eqb, not-true, not-false}
use Rattle.lists.specs.Tests.{all_of}
use Rattle.lists.proofs.TestLaws.{and-true}
use Rattle.spread.specs.Limits.{outside}
use Rattle.answers.specs.Answer.{Refusal, unsound, parked, bad_image, bad_edition, short_buffer, Answer, refused, given, number}
use Rattle.rules.specs.Numbers.{falling, holding}
use Rattle.rules.specs.State.{State, with_mark}
use Rattle.rules.specs.Calls.{Call, to_start, Fields, start_call, reply}
use Rattle.rules.proofs.Cases.{by-start}
use Rattle.rules.proofs.ParkedKept.{mark-kept, parked-reply}
use Rattle.memory.specs.Layout.{memory_of, memory_length}
use Rattle.memory.specs.Reading.{state_of}
use Rattle.memory.specs.Memory.{sound_bytes, Left, replied}
use Rattle.memory.proofs.OneMemory.{memory-sound, sound-memory}
use Rattle.memory.proofs.OnLaws.{on-memory}
use Rattle.promises.specs.Histories.{restarts}
use Rattle.uplink.specs.Lent.{left_on}
use Rattle.uplink.proofs.Runs.{left-sound, step-sound-on, step-length, refused-on}
use Rattle.octets.specs.Writing.{written}
use Rattle.image.specs.Image.{image_of}
use Rattle.image.specs.Reading.{state_in, version_in, sound_image, image_state}
use Rattle.image.specs.Parked.{leaving, Parked, parking, park_on, overwritten, read_on}
use Rattle.image.proofs.Images.{sound-image}
use Rattle.parking.specs.Acts.{Act, to_call, to_park, to_unpark, number_by, step_by, seen_by, ActInRange, begins, NoBeginning, parked_on, Silent}

-- ---- the reader: the memory is left, or becomes that of the image's state

abbrev pub state_read : List ℕ → State
state_read image = state_in (version_in image) image

module _ (image b : List ℕ) where
  pub by_reading : (P : Left (Unit {0}) → Type 0) → ((n : Refusal) → P (leaving (refused n) b))
      → (sound_image image ≡ true → length b ≡ memory_length → P (leaving (given tt) (memory_of (state_read image)))) → P (read_on image b)
  unfolding read_on image_state
  by_reading P stays reads = go (eqb (length b) memory_length) refl (sound_image image) refl
    where
      go : (t : Bool) → eqb (length b) memory_length ≡ t → (u : Bool) → sound_image image ≡ u
          → P (cond t (overwritten b (cond u (some (state_read image)) none)) (leaving (refused unsound) b))
      go true l true g = reads g (eqb-true (length b) memory_length l)
      go true l false g = stays bad_image
      go false l u g = stays unsound

  pub read_good : sound_image image ≡ true → length b ≡ memory_length → read_on image b ≡ leaving (given tt) (memory_of (state_read image))
  unfolding read_on image_state
  read_good g l = rw (eq-eqb (length b) memory_length l, g) refl

  read-sound : sound_bytes b ≡ true → sound_bytes (read_on image b).bytes ≡ true
  read-sound e = by_reading (λ x. sound_bytes x.bytes ≡ true) (λ n. e) (λ g l. sound-memory (sound-image image g).state)

  read_length : length (read_on image b).bytes ≡ length b
  read_length =
      by_reading (λ x. length x.bytes ≡ length b) (λ n. refl)
      (λ g l. (memory-sound (memory_of (state_read image)) (sound-memory (sound-image image g).state)).size ∙ sym l)

  read-refused : 1 ≤ number (read_on image b).answer → (read_on image b).bytes ≡ b
  read-refused = by_reading (λ x. 1 ≤ number x.answer → x.bytes ≡ b) (λ n l. refl) (λ g l z. absurd (omega arith))

  -- an image that is no sound state's
  pub read_stays : sound_image image ≡ false → (read_on image b).bytes ≡ b
  read_stays e = by_reading (λ x. x.bytes ≡ b) (λ n. refl) (λ g l. absurd (true≢false (sym g ∙ e)))

-- ---- the writer: memory and buffer are left, or the image stands in the buffer and the mark is set

abbrev pub marked : List ℕ → List ℕ
marked b = memory_of (with_mark (state_of b) true)

module _ (v : ℕ) (buffer b : List ℕ) where
  abbrev image : List ℕ
  image = image_of v (state_of b)

  pub by-parking {ℓ} : (P : Parked → Type ℓ) → ((n : Refusal) → P (parking (refused n) b buffer))
      → (sound_bytes b ≡ true → parked_on b ≡ false → length image ≤ length buffer → P (parking (given (length image)) (marked b) (written buffer 0 image)))
      → P (park_on v b buffer)
  unfolding park_on
  by-parking P stays parks = go (sound_bytes b) refl (parked_on b) refl (ltb (length buffer) (length image)) refl
    where
      go : (t : Bool) → sound_bytes b ≡ t → (m : Bool) → parked_on b ≡ m → (u : Bool) → ltb (length buffer) (length image) ≡ u
          → P (cond t (cond m (parking (refused parked) b buffer)
          (cond u (parking (refused short_buffer) b buffer) (parking (given (length image)) (marked b) (written buffer 0 image))))
          (parking (refused unsound) b buffer))
      go true e true q u z = stays parked
      go true e false q true z = stays short_buffer
      go true e false q false z = let n = ltb-false (length buffer) (length image) z in parks e q (omega arith)
      go false e m q u z = stays unsound

  park_sound : sound_bytes b ≡ true → sound_bytes (park_on v b buffer).state ≡ true
  park_sound e = by-parking (λ x. sound_bytes x.state ≡ true) (λ n. e) (λ s q l. sound-memory (mark-kept true (memory-sound b e).state))

  park_length : length (park_on v b buffer).state ≡ length b
  park_length =
      by-parking (λ x. length x.state ≡ length b) (λ n. refl)
      (λ e q l. (memory-sound (marked b) (sound-memory (mark-kept true (memory-sound b e).state))).size ∙ sym (memory-sound b e).size)

  -- "nothing parked, nothing written": a refusal keeps each byte of the buffer too
  pub park_refused : 1 ≤ number (park_on v b buffer).answer → ((park_on v b buffer).state ≡ b) × ((park_on v b buffer).image ≡ buffer)
  park_refused =
      by-parking (λ x. 1 ≤ number x.answer → (x.state ≡ b) × (x.image ≡ buffer)) (λ n l. (refl, refl)) (λ e q l z. absurd (omega arith))

  park_stays : parked_on b ≡ true → (park_on v b buffer).state ≡ b
  park_stays m = by-parking (λ x. x.state ≡ b) (λ n. refl) (λ e q l. absurd (true≢false (sym m ∙ q)))

-- ---- any act

pub act_sound : (b : List ℕ) (a : Act) → ActInRange a → sound_bytes b ≡ true → sound_bytes (step_by b a) ≡ true
act_sound b (to_call c) f e = step-sound-on b c f e
act_sound b (to_park v buffer) f e = park_sound v buffer b e
act_sound b (to_unpark image) f e = read-sound image b e

pub act_length : (b : List ℕ) (a : Act) → ActInRange a → length (step_by b a) ≡ length b
act_length b (to_call c) f = step-length b c f
act_length b (to_park v buffer) f = park_length v buffer b
act_length b (to_unpark image) f = read_length image b

-- "With a refusal .. each lent byte stays."
pub act_refused : (b : List ℕ) (a : Act) → 1 ≤ number_by b a → step_by b a ≡ b
act_refused b (to_call c) l = refused-on b c l
act_refused b (to_park v buffer) l = (park_refused v buffer b l).0
act_refused b (to_unpark image) l = read-refused image b l

pub no_beginning : (a : Act) (acts : List Act) → NoBeginning (a ∷ acts) → (begins a ≡ false) × NoBeginning acts
no_beginning a acts n =
    let (q, m) = and-true (not (begins a)) (all_of (λ a. not (begins a)) acts) n in
    (not-true (begins a) q, m)

-- ---- a parked memory

-- a call that the rules refuse is refused on the bytes
refusing : (b : List ℕ) (c : Call) (n : Refusal) → sound_bytes b ≡ true → reply c (state_of b) ≡ refused n → left_on b c ≡ leaving (refused n) b
refusing b c n e q = left-sound b c e ∙ on-memory (reply c) b e ∙ ap (replied b) q

start-refused : (k : ℕ) (s : State) → outside falling holding k ≡ true → reply (to_start k) s ≡ refused bad_edition
unfolding reply start_call
start-refused k s z = rw z refl

-- so is every call that starts nothing, where the memory is parked
parked-call : (b : List ℕ) (c : Call) → sound_bytes b ≡ true → parked_on b ≡ true → restarts c ≡ false → (n : Refusal) × (left_on b c ≡ leaving (refused n) b)
parked-call b c e m =
    by-start (λ c. restarts c ≡ false → (n : Refusal) × (left_on b c ≡ leaving (refused n) b))
    (λ k q. (bad_edition, refusing b (to_start k) bad_edition e (start-refused k (state_of b) (not-false (outside falling holding k) q))))
    (λ c o q. (parked, refusing b c parked e (parked-reply c (state_of b) o m))) c

pub parked-stays : (b : List ℕ) (a : Act) → sound_bytes b ≡ true → parked_on b ≡ true → begins a ≡ false → step_by b a ≡ b
parked-stays b (to_call c) e m q = let (n, l) = parked-call b c e m q in ap (λ (x : Left Fields). x.bytes) l
parked-stays b (to_park v buffer) e m q = park_stays v buffer b m
parked-stays b (to_unpark image) e m q = read_stays image b q

pub parked-unseen : {A : Type 0} (f : Call → Answer Fields → List A) (b : List ℕ) (a : Act) → Silent f → sound_bytes b ≡ true → parked_on b ≡ true → begins a ≡ false
    → seen_by f b a ≡ []
parked-unseen f b (to_call c) silent e m q = let (n, l) = parked-call b c e m q in ap (λ (x : Left Fields). f c x.answer) l ∙ silent c n
parked-unseen f b (to_park v buffer) silent e m q = refl
parked-unseen f b (to_unpark image) silent e m q = refl
