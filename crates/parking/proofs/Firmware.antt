-- Over a firmware change: what the writer parked comes back byte for byte when its image is read, into any memory of the right length.
use Prim.Native.Nat.{ℕ, ◌≤◌}
use mathlib.Core.Path.{◌≡◌, refl, sym, ap, ◌∙◌}
use mathlib.Core.Bool.{true, false}
use mathlib.Core.List.{List}
use native.Mathlib.Nat.{le_trans}
use lib.ListN.{length, take}
use borrow.Author.Tests.{le-ltb}
use Rattle.answers.specs.Answer.{Answer, given, number}
use Rattle.answers.proofs.Answers.{refused-given}
use Rattle.rules.specs.Calls.{Call, Fields}
use Rattle.memory.specs.Layout.{memory_length}
use Rattle.memory.specs.Reading.{state_of}
use Rattle.memory.specs.Memory.{sound_bytes, Left}
use Rattle.memory.proofs.OneMemory.{memory-sound}
use Rattle.memory.proofs.SoundFits.{sound-fits}
use Rattle.uplink.specs.Lent.{ticket_on, waiting_on}
use Rattle.image.specs.Image.{image_of, longest_image}
use Rattle.image.specs.Reading.{known}
use Rattle.image.specs.Parked.{leaving, Parked, park_on, read_on}
use Rattle.image.proofs.Lengths.{image-most}
use Rattle.image.proofs.HeadLaws.{park_stored}
use Rattle.image.proofs.Promises.{answered, parked_reads}
use Rattle.parking.specs.Acts.{Act, to_unpark, number_by, step_by, along_by, parked_on}
use Rattle.parking.proofs.ActLaws.{marked, by-parking}

-- a sound memory that isn't parked is parked, if the buffer has room for the longest image
pub parks : (v : ℕ) (m buffer : List ℕ) → sound_bytes m ≡ true → parked_on m ≡ false → longest_image v ≤ length buffer
    → (park_on v m buffer).answer ≡ given (length (image_of v (state_of m)))
parks v m buffer e open-yet room =
    let image = image_of v (state_of m) in
    let fits : length image ≤ length buffer = le_trans (image-most v (sound-fits (memory-sound m e).state)) room in
    ap (λ (x : Parked). x.answer) (sym (park_stored v m buffer e open-yet)) ∙ rw (le-ltb (length buffer) (length image) fits) refl

-- what is parked was sound and not parked yet, its image had room, and the mark alone is changed
pub record Accepted (v : ℕ) (m buffer : List ℕ) : Type 0 where
  pub sound : sound_bytes m ≡ true
  pub unparked : parked_on m ≡ false
  pub room : length (image_of v (state_of m)) ≤ length buffer
  pub mark-alone : (park_on v m buffer).state ≡ marked m

pub accepted : (v k : ℕ) (m buffer : List ℕ) → (park_on v m buffer).answer ≡ given k → Accepted v m buffer
accepted v k m buffer z =
    let (e, q, l, mark) =
    by-parking v buffer m
    (λ x. x.answer ≡ given k → (sound_bytes m ≡ true) × (parked_on m ≡ false) × (length (image_of v (state_of m)) ≤ length buffer) × (x.state ≡ marked m))
    (λ n z. absurd (refused-given z)) (λ e q l z. (e, q, l, refl)) z in
    record { sound = e; unparked = q; room = l; mark-alone = mark }

-- "Across a firmware change: what waited before parking is what waits after reading, in order, with the same tickets and serials, and the next sends are those that
-- would have come": b is the memory that the image is read into, and the image is as many bytes of the buffer as the writer answered
pub record SameAfter (b m : List ℕ) (image : List ℕ) : Type 1 where
  pub read : number_by b (to_unpark image) ≡ 0
  pub bytes : step_by b (to_unpark image) ≡ m
  pub waits : (i t : ℕ) → waiting_on i t (step_by b (to_unpark image)) ≡ waiting_on i t m
  pub tickets : (i : ℕ) → ticket_on i (step_by b (to_unpark image)) ≡ ticket_on i m
  pub goes_on : {A : Type 0} (f : Call → Answer Fields → List A) (acts : List Act) → along_by f (step_by b (to_unpark image)) acts ≡ along_by f m acts

pub firmware_change : (v k : ℕ) (m buffer b : List ℕ) → known v ≡ true → (park_on v m buffer).answer ≡ given k → length b ≡ memory_length
    → SameAfter b m (take k (park_on v m buffer).image)
firmware_change v k m buffer b known-yet taken size =
    let A = accepted v k m buffer taken in
    let image = ap (λ (a : Answer ℕ). take (answered a) (park_on v m buffer).image) taken in
    let back : read_on (take k (park_on v m buffer).image) b ≡ leaving (given tt) m
    = ap (λ (i : List ℕ). read_on i b) (sym image) ∙ parked_reads v m buffer b known-yet A.sound A.unparked A.room size in
    let same = ap (λ (x : Left (Unit {0})). x.bytes) back in
    record {
      read = ap (λ (x : Left (Unit {0})). number x.answer) back;
      bytes = same;
      waits = λ i t. ap (waiting_on i t) same;
      tickets = λ i. ap (ticket_on i) same;
      goes_on = λ f acts. ap (λ (d : List ℕ). along_by f d acts) same;
    }
