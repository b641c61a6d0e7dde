-- Demand 2 over acts, from any sound memory on as long as no history begins: acts are seen as calls, and of those it is promised. That acts are in range says that
-- a reference is a 32-bit number.
use Prim.Native.Nat.{ℕ, suc, ◌+◌, ◌≤◌}
use mathlib.Core.Path.{◌≡◌, refl, sym, ap, ◌∙◌, subst}
use mathlib.Core.Bool.{true, false}
use mathlib.Core.Logic.{◌⊎◌}
use mathlib.Core.List.{List, ◌++◌, map}
use lib.ListN.{length}
use Rattle.lists.specs.Slots.{occurs}
use Rattle.answers.specs.Answer.{number}
use Rattle.rules.specs.State.{State, at, with_mark}
use Rattle.rules.specs.Reply.{Reply, answer_of}
use Rattle.rules.specs.Calls.{Call, Fields, run}
use Rattle.rules.specs.Facts.{Sound}
use Rattle.rules.proofs.ParkedKept.{parked-reply}
use Rattle.memory.specs.Layout.{memory_of}
use Rattle.memory.specs.Reading.{state_of}
use Rattle.memory.specs.Memory.{sound_bytes}
use Rattle.memory.proofs.OneMemory.{memory-sound}
use Rattle.promises.specs.Histories.{Numbered, takes, sends, gives, along, next_serial, waiting, names, Old, ticket_of, turns}
use Rattle.promises.proofs.Records.{records-from}
use Rattle.promises.proofs.Serials.{serial_of, oldest, serials-go-on}
use Rattle.promises.proofs.Tickets.{tickets-from, had-from}
use Rattle.promises.proofs.OldTickets.{left-absent, names-other, old_refused, old_stays}
use Rattle.uplink.specs.Lent.{step_on, number_on, ticket_on, LapsedOn, waiting_on}
use Rattle.uplink.proofs.Runs.{step-bytes}
use Rattle.uplink.proofs.Observed.{number-on}
use Rattle.parking.specs.Acts.{Act, run_by, along_by, ActsInRange, NoBeginning, parked_on, calls_by}
use Rattle.parking.proofs.AsCalls.{AsCalls, as_calls, acts_sound}

module _ (b : List ℕ) (acts : List Act) (e : sound_bytes b ≡ true) (f : ActsInRange acts) (n : NoBeginning acts) where
  C : AsCalls (state_of b) b acts (calls_by b acts)
  C = as_calls b acts e f n

  S : Sound (state_of b)
  S = (memory-sound b e).state

  -- what is said of the state left without its mark
  then : {A : Type 0} (g : State → A) → ((s : State) → g (with_mark s C.mark) ≡ g s) → g (state_of (run_by b acts)) ≡ g (run (state_of b) (calls_by b acts))
  then g same = ap g C.state ∙ same (run (state_of b) (calls_by b acts))

  taken : (i t : ℕ) → along_by (takes i t) b acts ≡ along (takes i t) (state_of b) (calls_by b acts)
  taken i t = C.seen (takes i t) (λ c r. refl)

  -- "then taken = sent + waiting under each slot and ticket, in order": what waits at first comes first
  pub records-from-by : (i t : ℕ) → waiting_on i t b ++ along_by (takes i t) b acts ≡ along_by (sends i t) b acts ++ waiting_on i t (run_by b acts)
  records-from-by i t =
      ap (λ (l : List Numbered). waiting_on i t b ++ l) (taken i t)
      ∙ records-from i t (calls_by b acts) S C.no_start C.in_range
      ∙ ap (λ (l : List Numbered). l ++ waiting i t (run (state_of b) (calls_by b acts))) (sym (C.seen (sends i t) (λ c r. refl)))
      ∙ ap (λ (l : List Numbered). along_by (sends i t) b acts ++ l) (sym (then (waiting i t) (λ s. refl)))

  -- serials go on: of what waited at first and what is taken since, in turn
  pub serials-from-by : (i t : ℕ)
      → map serial_of (waiting_on i t b ++ along_by (takes i t) b acts)
      ≡ turns next_serial (oldest t (at (state_of b).channels i)) (length (waiting_on i t b ++ along_by (takes i t) b acts))
  serials-from-by i t = rw (taken i t) (serials-go-on i t (calls_by b acts) S C.no_start C.in_range)

  -- tickets go on from the one that the slot has: each is given once
  pub tickets-from-by : (i : ℕ) → (m : ℕ) × (along_by (gives i) b acts ≡ turns suc (suc (ticket_on i b)) m) × (ticket_on i (run_by b acts) ≡ ticket_on i b + m)
  tickets-from-by i =
      let (m, given, last) = tickets-from i (calls_by b acts) S C.no_start C.in_range in
      (m, C.seen (gives i) (λ c r. refl) ∙ given, then (ticket_of i) (λ s. refl) ∙ last)

  had : (i t : ℕ) → (t ≤ ticket_on i b) ⊎ (1 ≤ occurs t (along_by (gives i) b acts)) → t ≤ ticket_on i (run_by b acts)
  had i t h =
      let given = C.seen (gives i) (λ c r. refl) in
      rw (then (ticket_of i) (λ s. refl))
      (had-from i t (calls_by b acts) S C.no_start C.in_range
      (subst (λ (l : List ℕ). (t ≤ ticket_on i b) ⊎ (1 ≤ occurs t l)) given h))

  -- a ticket that is old stays so
  old_stays-by : (i t : ℕ) → Old i t (state_of b) → Old i t (state_of (run_by b acts))
  old_stays-by i t o =
      let later = old_stays i t (calls_by b acts) (state_of b) S C.no_start C.in_range o in
      rw C.state (record { some = later.some; had = later.had; gone = later.gone })

-- ---- old tickets

-- a call that names one leaves each byte: it is refused with 2, or with 14 where the memory is parked
pub record Refused (b : List ℕ) (c : Call) : Type 0 where
  pub stays : step_on b c ≡ b
  pub two : parked_on b ≡ false → number_on b c ≡ 2
  pub fourteen : parked_on b ≡ true → number_on b c ≡ 14

old_refused-on : (i t : ℕ) (b : List ℕ) (c : Call) → sound_bytes b ≡ true → Old i t (state_of b) → names i t c ≡ true → Refused b c
old_refused-on i t b c e o q =
    let (two, stays) = old_refused i t (state_of b) c (memory-sound b e).state o q in
    record {
      stays = step-bytes b c e ∙ ap memory_of stays ∙ (memory-sound b e).bytes;
      two = λ m. number-on b c e ∙ two m;
      fourteen = λ m. number-on b c e ∙ ap (λ (r : Reply Fields). number (answer_of r)) (parked-reply c (state_of b) (names-other i t c q) m);
    }

-- "Old tickets: those at most the slot's ticket in the image, and those given since, change nothing once lapsed": slot i had ticket t at first or was given it in
-- the acts, and it has lapsed; then after any further acts without a beginning each call that names it is refused and leaves each byte
pub old_refused-by : (i t : ℕ) (b : List ℕ) (acts more : List Act) → sound_bytes b ≡ true → ActsInRange acts → NoBeginning acts → ActsInRange more → NoBeginning more
    → 1 ≤ t → (t ≤ ticket_on i b) ⊎ (1 ≤ occurs t (along_by (gives i) b acts)) → LapsedOn i t (run_by b acts) → (c : Call) → names i t c ≡ true
    → Refused (run_by (run_by b acts) more) c
old_refused-by i t b acts more e f n f' n' some h l c q =
    let d = run_by b acts in
    let z = acts_sound b acts f e in
    let o : Old i t (state_of d) = record { some = some; had = had b acts e f n i t h; gone = left-absent t (at (state_of d).channels i) l } in
    old_refused-on i t (run_by d more) c (acts_sound d more f' z) (old_stays-by d more z f' n' i t o) q
