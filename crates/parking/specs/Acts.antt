-- Acts on one lent memory: calls, with the writer and the reader of a parked image between them (02 §6), each given the bytes that the act before it left.
use Rattle.std.specs.Prelude.{ℕ, ◌≡◌, Bool, true, false, not, cond, List, [], ◌∷◌, ◌++◌}
use Rattle.lists.specs.Tests.{all_of}
use Rattle.answers.specs.Answer.{Answer, Refusal, refused, number}
use Rattle.rules.specs.Calls.{Call, Fields, InRange}
use Rattle.memory.specs.Reading.{state_of}
use Rattle.promises.specs.Histories.{Numbered, waiting, restarts, ticket_of}
use Rattle.promises.specs.Moments.{Moment}
use Rattle.uplink.specs.Lent.{answer_on, step_on, moments_on}
use Rattle.image.specs.Reading.{state_in, version_in, sound_image}
use Rattle.image.specs.Parked.{park_on, read_on}

-- a call; the writer of a version, lent a buffer; the reader, lent an image
pub data Act : Type 0 where
  to_call : Call → Act
  to_park : ℕ → List ℕ → Act
  to_unpark : List ℕ → Act

-- ---- one act

-- the number that it answers, and the bytes of the memory that it leaves
abbrev pub number_by : List ℕ → Act → ℕ
number_by b (to_call c) = number (answer_on b c)
number_by b (to_park v buffer) = number (park_on v b buffer).answer
number_by b (to_unpark image) = number (read_on image b).answer

abbrev pub step_by : List ℕ → Act → List ℕ
step_by b (to_call c) = step_on b c
step_by b (to_park v buffer) = (park_on v b buffer).state
step_by b (to_unpark image) = (read_on image b).bytes

-- what is seen of a call, as the promises see it, is seen of that act; of the writer and the reader nothing is
abbrev pub seen_by : {A : Type 0} → (Call → Answer Fields → List A) → List ℕ → Act → List A
seen_by f b (to_call c) = f c (answer_on b c)
seen_by f b (to_park v buffer) = []
seen_by f b (to_unpark image) = []

-- ---- lists of acts

unfoldable pub run_by : List ℕ → List Act → List ℕ
run_by b [] = b
run_by b (a ∷ acts) = run_by (step_by b a) acts

unfoldable pub along_by : {A : Type 0} → (Call → Answer Fields → List A) → List ℕ → List Act → List A
along_by f b [] = []
along_by f b (a ∷ acts) = seen_by f b a ++ along_by f (step_by b a) acts

-- "References are any 32-bit number"
abbrev pub ActInRange : Act → Type 0
ActInRange (to_call c) = InRange c
ActInRange (to_park v buffer) = Unit {0}
ActInRange (to_unpark image) = Unit {0}

abbrev pub ActsInRange : List Act → Type 0
ActsInRange [] = Unit {0}
ActsInRange (a ∷ acts) = ActInRange a × ActsInRange acts

-- ---- where a history begins

-- at a Start that starts something, and "Demand 2's history starts anew at a reading": one of an image that is exactly one sound state's. (Another is refused.)
abbrev pub begins : Act → Bool
begins (to_call c) = restarts c
begins (to_park v buffer) = false
begins (to_unpark image) = sound_image image

abbrev pub NoBeginning : List Act → Type 0
NoBeginning acts = all_of (λ a. not (begins a)) acts ≡ true

-- "with the records waiting in the image as the first ones taken"
abbrev pub first_taken : ℕ → ℕ → Act → List Numbered
first_taken i t (to_call c) = []
first_taken i t (to_park v buffer) = []
first_taken i t (to_unpark image) = waiting i t (state_in (version_in image) image)

-- and the slot's ticket in it
abbrev pub first_ticket : ℕ → Act → ℕ
first_ticket i (to_call c) = 0
first_ticket i (to_park v buffer) = 0
first_ticket i (to_unpark image) = ticket_of i (state_in (version_in image) image)

-- ---- the calls among acts, and their moments

-- whether the memory is parked
abbrev pub parked_on : List ℕ → Bool
parked_on b = (state_of b).parked

-- the call of an act, where it meets a memory that isn't
abbrev pub calls_in : Bool → Act → List Call
calls_in parked (to_call c) = cond parked [] (c ∷ [])
calls_in parked (to_park v buffer) = []
calls_in parked (to_unpark image) = []

unfoldable pub calls_by : List ℕ → List Act → List Call
calls_by b [] = []
calls_by b (a ∷ acts) = calls_in (parked_on b) a ++ calls_by (step_by b a) acts

-- the moments of acts are those of these calls: each other call is refused and has none
abbrev pub moments_by : List ℕ → List Act → List Moment
moments_by b acts = moments_on b (calls_by b acts)

-- nothing is seen of a call that is refused, as in the histories of the promises
abbrev pub Silent : {A : Type 0} → (Call → Answer Fields → List A) → Type 0
Silent f = (c : Call) (n : Refusal) → f c (refused n) ≡ []
