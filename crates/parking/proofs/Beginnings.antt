-- A history, from where it begins: at a Start the memory is fresh, and at a reading it is that of the image's state. Either is sound, whatever was there before,
-- and from a sound memory on demand 2 holds.
use Prim.Native.Nat.{ℕ, ◌≤◌}
use mathlib.Core.Path.{◌≡◌, refl, sym, ap, ◌∙◌, subst}
use mathlib.Core.Bool.{true, false≢true}
use mathlib.Core.Logic.{◌⊎◌}
use mathlib.Core.List.{List, [], ◌∷◌, ◌++◌, map}
use lib.ListN.{length}
use borrow.Author.Tests.{not-true}
use Rattle.lists.specs.Slots.{occurs}
use Rattle.spread.specs.Limits.{outside}
use Rattle.spread.proofs.Limits.{between}
use Rattle.rules.specs.Numbers.{falling, holding}
use Rattle.rules.specs.State.{Channel, at}
use Rattle.rules.specs.Calls.{Call, to_open, to_put, to_close, to_next, to_start, to_ask, to_fullest}
use Rattle.rules.specs.Facts.{Edition}
use Rattle.memory.specs.Layout.{memory_length}
use Rattle.memory.specs.Reading.{state_of}
use Rattle.memory.specs.Memory.{sound_bytes, Left}
use Rattle.memory.proofs.OneMemory.{sound-memory}
use Rattle.memory.proofs.Base.{sound-state}
use Rattle.memory.proofs.Fresh.{fresh-memory-sound, fresh-memory-state}
use Rattle.promises.specs.Histories.{Numbered, takes, sends, gives, next_serial, waiting, restarts, names, ticket_of, turns}
use Rattle.promises.proofs.OneSlot.{at-fresh}
use Rattle.promises.proofs.Serials.{serial_of, oldest}
use Rattle.uplink.specs.Lent.{LapsedOn, waiting_on}
use Rattle.uplink.proofs.Runs.{start-fresh}
use Rattle.image.proofs.Images.{sound-image}
use Rattle.parking.specs.Acts.{Act, to_call, to_park, to_unpark, step_by, run_by, along_by, ActsInRange, begins, NoBeginning, first_taken, first_ticket}
use Rattle.parking.proofs.ActLaws.{read_good, act_length}
use Rattle.parking.proofs.Histories.{records-from-by, serials-from-by, Refused, old_refused-by}

-- ---- the memory at a beginning

-- it is sound, and its state has the first records and tickets
pub record Begun (b : List ℕ) (a : Act) : Type 0 where
  pub sound : sound_bytes b ≡ true
  pub waits : (i t : ℕ) → waiting i t (state_of b) ≡ first_taken i t a
  pub ticket : (i : ℕ) → ticket_of i (state_of b) ≡ first_ticket i a

-- a call that starts something is a Start of an edition
start-only : (P : Call → Type 0) → ((e : ℕ) → Edition e → P (to_start e)) → (c : Call) → restarts c ≡ true → P c
start-only P start (to_open w) q = absurd (false≢true q)
start-only P start (to_put i t n r) q = absurd (false≢true q)
start-only P start (to_close i t) q = absurd (false≢true q)
start-only P start to_next q = absurd (false≢true q)
start-only P start (to_start e) q = start e (between falling holding e (not-true (outside falling holding e) q))
start-only P start (to_ask i t) q = absurd (false≢true q)
start-only P start to_fullest q = absurd (false≢true q)

module _ (b : List ℕ) (l : length b ≡ memory_length) where
  begun_fresh : (e : ℕ) → Edition e → Begun (step_by b (to_call (to_start e))) (to_call (to_start e))
  begun_fresh e E =
      rw (start-fresh e b l E).1
      (record {
        sound = fresh-memory-sound e E;
        waits = λ i t. rw (fresh-memory-state e E, at-fresh e i) refl;
        ticket = λ i. ap (ticket_of i) (fresh-memory-state e E) ∙ ap (λ (c : Channel). c.ticket) (at-fresh e i);
      })

  begun-read : (image : List ℕ) → begins (to_unpark image) ≡ true → Begun (step_by b (to_unpark image)) (to_unpark image)
  begun-read image q =
      let S = (sound-image image q).state in
      subst (λ (x : Left (Unit {0})). Begun x.bytes (to_unpark image)) (sym (read_good image b q l))
      (record { sound = sound-memory S; waits = λ i t. ap (waiting i t) (sound-state S); ticket = λ i. ap (ticket_of i) (sound-state S) })

  pub begun : (a : Act) → begins a ≡ true → Begun (step_by b a) a
  begun (to_call c) q = start-only (λ c. Begun (step_by b (to_call c)) (to_call c)) begun_fresh c q
  begun (to_park v buffer) q = absurd (false≢true q)
  begun (to_unpark image) q = begun-read image q

pub acts_length : (b : List ℕ) (acts : List Act) → ActsInRange acts → length (run_by b acts) ≡ length b
unfolding run_by
acts_length b [] f = refl
acts_length b (a ∷ acts) f = acts_length (step_by b a) acts f.1 ∙ act_length b a f.0

-- ---- histories: whatever came before, from a beginning on until the next

module _ (b : List ℕ) (before : List Act) (a : Act) (since : List Act) (l : length b ≡ memory_length) (f : ActsInRange before) (q : begins a ≡ true)
    (g : ActsInRange since) (n : NoBeginning since) where
  -- the memory at the beginning
  abbrev pub beginning : List ℕ
  beginning = step_by (run_by b before) a

  B : Begun (step_by (run_by b before) a) a
  B = begun (run_by b before) (acts_length b before f ∙ l) a q

  -- "Demand 2's history starts anew at a reading, with the records waiting in the image as the first ones taken": these and the ones taken since are those sent and
  -- those waiting, in order, none lost or doubled
  pub records_since : (i t : ℕ) → first_taken i t a ++ along_by (takes i t) beginning since ≡ along_by (sends i t) beginning since ++ waiting_on i t (run_by beginning since)
  records_since i t =
      ap (λ (w : List Numbered). w ++ along_by (takes i t) beginning since) (sym (B.waits i t)) ∙ records-from-by beginning since B.sound g n i t

  -- and their serials are in turn, from that of the oldest in the image, or from 0
  pub serials_since : (i t : ℕ)
      → map serial_of (first_taken i t a ++ along_by (takes i t) beginning since)
      ≡ turns next_serial (oldest t (at (state_of beginning).channels i)) (length (first_taken i t a ++ along_by (takes i t) beginning since))
  serials_since i t =
      subst
      (λ (w : List Numbered). map serial_of (w ++ along_by (takes i t) beginning since)
      ≡ turns next_serial (oldest t (at (state_of beginning).channels i)) (length (w ++ along_by (takes i t) beginning since)))
      (B.waits i t) (serials-from-by beginning since B.sound g n i t)

  -- "and then covers old tickets given since or in the image": once lapsed, each call that names one is refused and leaves each byte, until the next beginning
  pub old_since : (i t : ℕ) (more : List Act) → ActsInRange more → NoBeginning more → 1 ≤ t → (t ≤ first_ticket i a) ⊎ (1 ≤ occurs t (along_by (gives i) beginning since))
      → LapsedOn i t (run_by beginning since) → (c : Call) → names i t c ≡ true → Refused (run_by (run_by beginning since) more) c
  old_since i t more g' n' some h =
      old_refused-by i t beginning since more B.sound g n g' n' some
      (subst (λ (u : ℕ). (t ≤ u) ⊎ (1 ≤ occurs t (along_by (gives i) beginning since))) (sym (B.ticket i)) h)
