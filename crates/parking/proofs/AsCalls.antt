-- Acts without a beginning are seen as calls: as those among them that were made before the parking. A parking changes the mark alone; on a parked memory
-- nothing is done until a history begins; and an image that is no sound state's is refused. So whatever is promised of calls is promised of acts.
use Prim.Native.Nat.{ℕ}
use mathlib.Core.Path.{◌≡◌, refl, sym, ap, ◌∙◌, subst}
use mathlib.Core.Bool.{Bool, true, false, not}
use mathlib.Core.List.{List, [], ◌∷◌, ◌++◌}
use Rattle.answers.specs.Answer.{Answer}
use Rattle.rules.specs.State.{State, with_mark}
use Rattle.rules.specs.Calls.{Call, Fields, answer_by, run, InRange, AllInRange}
use Rattle.memory.specs.Reading.{state_of}
use Rattle.memory.specs.Memory.{sound_bytes}
use Rattle.memory.proofs.OneMemory.{memory-sound, sound-memory}
use Rattle.memory.proofs.Base.{sound-state}
use Rattle.rules.proofs.ParkedKept.{mark-kept, mark-same, unparked-kept}
use Rattle.lists.proofs.TestLaws.{true-and}
use Rattle.promises.specs.Histories.{along, NoStart}
use Rattle.uplink.specs.Lent.{step_on}
use Rattle.uplink.proofs.Runs.{step-sound-on, step-state}
use Rattle.uplink.proofs.Observed.{answer-on}
use Rattle.parking.specs.Acts.{Act, to_call, to_park, to_unpark, step_by, run_by, along_by, ActsInRange, NoBeginning, parked_on, calls_in, calls_by, Silent}
use Rattle.parking.proofs.ActLaws.{marked, by-parking, read_stays, act_sound, no_beginning, parked-stays, parked-unseen}

-- ---- a sound memory stays sound

pub acts_sound : (b : List ℕ) (acts : List Act) → ActsInRange acts → sound_bytes b ≡ true → sound_bytes (run_by b acts) ≡ true
unfolding run_by
acts_sound b [] f e = e
acts_sound b (a ∷ acts) f e = acts_sound (step_by b a) acts f.1 (act_sound b a f.0 e)

-- ---- on a parked memory nothing is done

pub record Still (b : List ℕ) (acts : List Act) : Type 1 where
  pub left : run_by b acts ≡ b
  pub none : calls_by b acts ≡ []
  pub unseen : {A : Type 0} (f : Call → Answer Fields → List A) → Silent f → along_by f b acts ≡ []

parked-none : (a : Act) → calls_in true a ≡ []
parked-none (to_call c) = refl
parked-none (to_park v buffer) = refl
parked-none (to_unpark image) = refl

pub parked_acts : (b : List ℕ) (acts : List Act) → sound_bytes b ≡ true → parked_on b ≡ true → NoBeginning acts → Still b acts
unfolding run_by calls_by along_by
parked_acts b [] e m n = record { left = refl; none = refl; unseen = λ f silent. refl }
parked_acts b (a ∷ acts) e m n =
    let (q, more) = no_beginning a acts n in
    let later = parked_acts b acts e m more in
    let here = parked-stays b a e m q in
    record {
      left = rw here later.left;
      none = rw (m, here, later.none, parked-none a) refl;
      unseen = λ f silent. rw (here, later.unseen f silent, parked-unseen f b a silent e m q) refl;
    }

-- ---- otherwise the calls are made

-- the acts on d do and show what the calls cs do and show from the state s on; the mark may be set since
pub record AsCalls (s : State) (d : List ℕ) (acts : List Act) (cs : List Call) : Type 1 where
  pub no_start : NoStart cs
  pub in_range : AllInRange cs
  pub mark : Bool
  pub state : state_of (run_by d acts) ≡ with_mark (run s cs) mark
  pub seen : {A : Type 0} (f : Call → Answer Fields → List A) → Silent f → along_by f d acts ≡ along f s cs

-- where the memory is parked, none is made
still_as_calls : (s : State) (d : List ℕ) (acts : List Act) (m : Bool) → state_of d ≡ with_mark s m → Still d acts → AsCalls s d acts (calls_by d acts)
unfolding run along
still_as_calls s d acts m e S =
    rw S.none
    (record { no_start = refl; in_range = tt; mark = m; state = ap state_of S.left ∙ e; seen = λ f silent. S.unseen f silent })

parked-state : (b : List ℕ) → sound_bytes b ≡ true → state_of (marked b) ≡ with_mark (state_of b) true
parked-state b e = sound-state (mark-kept true (memory-sound b e).state)

parked-sound : (b : List ℕ) → sound_bytes b ≡ true → sound_bytes (marked b) ≡ true
parked-sound b e = sound-memory (mark-kept true (memory-sound b e).state)

-- so where it has just been parked
pub marked_acts : (b : List ℕ) (acts : List Act) → sound_bytes b ≡ true → NoBeginning acts → Still (marked b) acts
marked_acts b acts e n = parked_acts (marked b) acts (parked-sound b e) (ap (λ (s : State). s.parked) (parked-state b e)) n

-- no call parks a memory
pub call-unparked : (b : List ℕ) (c : Call) → InRange c → sound_bytes b ≡ true → parked_on b ≡ false → parked_on (step_on b c) ≡ false
call-unparked b c f e m = ap (λ (s : State). s.parked) (step-state b c f e) ∙ unparked-kept c (memory-sound b e).state m

-- by the first act: a call is made, a parking sets the mark or is refused, and a reading is refused
unparked_as_calls : (b : List ℕ) (acts : List Act) → sound_bytes b ≡ true → parked_on b ≡ false → ActsInRange acts → NoBeginning acts
    → AsCalls (state_of b) b acts (calls_by b acts)
unfolding run_by calls_by along_by run along
unparked_as_calls b [] e m f n =
    record { no_start = refl; in_range = tt; mark = parked_on b; state = sym (mark-same (state_of b) refl); seen = λ f silent. refl }
unparked_as_calls b (to_call c ∷ acts) e m f n =
    let (q, more) = no_beginning (to_call c) acts n in
    let later = unparked_as_calls (step_on b c) acts (step-sound-on b c f.0 e) (call-unparked b c f.0 e m) f.1 more in
    let here = step-state b c f.0 e in
    subst (λ (t : Bool). AsCalls (state_of b) b (to_call c ∷ acts) (calls_in t (to_call c) ++ calls_by (step_on b c) acts)) (sym m)
    (record {
      no_start = true-and (ap not q) later.no_start;
      in_range = (f.0, later.in_range);
      mark = later.mark;
      state = later.state ∙ ap (λ (s : State). with_mark (run s (calls_by (step_on b c) acts)) later.mark) here;
      seen = λ {A} g silent. ap (λ (a : Answer Fields). g c a ++ along_by g (step_on b c) acts) (answer-on b c e)
          ∙ ap (λ (l : List A). g c (answer_by (state_of b) c) ++ l) (later.seen g silent ∙ ap (λ (s : State). along g s (calls_by (step_on b c) acts)) here);
    })
unparked_as_calls b (to_park v buffer ∷ acts) e m f n =
    let (q, more) = no_beginning (to_park v buffer) acts n in
    let later = unparked_as_calls b acts e m f.1 more in
    let L = by-parking v buffer b (λ x. AsCalls (state_of b) x.state acts (calls_by x.state acts)) (λ r. later)
    (λ z p l. still_as_calls (state_of b) (marked b) acts true (parked-state b e) (marked_acts b acts e more)) in
    record { no_start = L.no_start; in_range = L.in_range; mark = L.mark; state = L.state; seen = λ g silent. L.seen g silent }
unparked_as_calls b (to_unpark image ∷ acts) e m f n =
    let (q, more) = no_beginning (to_unpark image) acts n in
    let later = unparked_as_calls b acts e m f.1 more in
    let L = subst (λ (d : List ℕ). AsCalls (state_of b) d acts (calls_by d acts)) (sym (read_stays image b q)) later in
    record { no_start = L.no_start; in_range = L.in_range; mark = L.mark; state = L.state; seen = λ g silent. L.seen g silent }

pub as_calls : (b : List ℕ) (acts : List Act) → sound_bytes b ≡ true → ActsInRange acts → NoBeginning acts → AsCalls (state_of b) b acts (calls_by b acts)
as_calls b acts e f n = go (parked_on b) refl
  where
    go : (m : Bool) → parked_on b ≡ m → AsCalls (state_of b) b acts (calls_by b acts)
    go true m = still_as_calls (state_of b) b acts true (sym (mark-same (state_of b) m)) (parked_acts b acts e m n)
    go false m = unparked_as_calls b acts e m f n
