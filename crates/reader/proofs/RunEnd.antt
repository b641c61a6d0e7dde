-- Where the run of records ends while the slots are filled one after the other: behind the records of the last slot that has any.
use Rattle.std.proofs.Common.{◌≡◌, ℕ, zero, suc, ◌+◌, ◌<◌, ◌≤◌, List, [], ◌∷◌, length, sym, refl, ap, ◌∙◌, ⊎_elim, eq-or-lt_of_le, arith, length-append, length-set, get_or-set_other, get_or-set_same}
use Rattle.rules.specs.Numbers.{slots}
use Rattle.rules.specs.State.{Record, Channel, State, blank, at}
use Rattle.memory.specs.Layout.{run_of, bytes_of}
use Rattle.memory.specs.Reading.{first_at}
use Rattle.memory.specs.Edits.{with_waiting, queue_now}
use Rattle.memory.specs.Fits.{Fits}
use Rattle.memory.specs.Records.{Ends}
use Rattle.memory.proofs.RunLaws.{before, before-suc, before-set}
use Rattle.memory.proofs.RunEdits.{total-is}
use Rattle.memory.proofs.RoundTrip.{first-is}
use Rattle.reader.specs.Decoding.{NoneBehind}

-- no records stand behind the first k slots' where no further slot has any
before-rest : (cs : List Channel) (k : ℕ) → ((j : ℕ) → k ≤ j → (at cs j).waiting ≡ []) → before cs k ≡ length (run_of cs)
unfolding before run_of
before-rest [] zero h = refl
before-rest [] (suc k) h = refl
before-rest (c ∷ cs) zero h =
    let here : c.waiting ≡ [] = h 0 (omega arith) in
    rw here (before-rest cs 0 (λ j l. h (suc j) (omega arith)))
before-rest (c ∷ cs) (suc k) h = omega (arith, length-append c.waiting (run_of cs), before-rest cs k (λ j l. h (suc j) (omega arith)))

-- so where no slot from slot k on has records, the run ends before slot k, and that is read off the memory
pub run_ends : {s : State} {m : List ℕ} (k : ℕ) → ((j : ℕ) → k ≤ j → (at s.channels j).waiting ≡ []) → Fits s → m ≡ bytes_of s → first_at m slots ≡ before s.channels k
run_ends {s} k h F e = rw e (total-is F ∙ sym (before-rest s.channels k h))

-- a slot that has none, and none behind it
pub none_from : (s : State) (i : ℕ) → (at s.channels i).waiting ≡ [] → NoneBehind s i → (j : ℕ) → i ≤ j → (at s.channels j).waiting ≡ []
none_from s i idle behind j l = ⊎_elim (λ (e : i ≡ j). rw (← e) idle) (λ (m : i < j). behind j (omega arith)) (eq-or-lt_of_le l)

module _ (s : State) (i : ℕ) (xs : List Record) (l : i < length s.channels) (behind : NoneBehind s i) where
  abbrev now : List Channel
  now = (queue_now s i xs).channels

  -- with a queue in slot i the run ends behind it
  queue_before : before now (suc i) ≡ before s.channels i + length xs
  queue_before =
      let c = with_waiting xs (at s.channels i) in
      let here : at now i ≡ c = get_or-set_same s.channels i c blank l in
      before-suc now i ∙ rw (before-set s.channels i c, here)

  queue_run : length (run_of now) ≡ before s.channels i + length xs
  queue_run =
      let c = with_waiting xs (at s.channels i) in
      let later : (j : ℕ) → suc i ≤ j → (at now j).waiting ≡ []
      = λ j m. ap (λ (d : Channel). d.waiting) (get_or-set_other s.channels i j c blank (λ e. omega arith)) ∙ behind j m in
      sym (before-rest now (suc i) later) ∙ queue_before

  -- and so it is read off the memory
  pub queue_ends : {m : List ℕ} → Fits (queue_now s i xs) → m ≡ bytes_of (queue_now s i xs) → Ends m i (before s.channels i + length xs)
  queue_ends F e =
      let next : i + 1 ≡ suc i = omega arith in
      let here : i < slots = omega (arith, F.size, size) in
      (rw (e, next) (first-is F (suc i) here ∙ queue_before), rw e (total-is F ∙ queue_run))
    where
      size : length now ≡ length s.channels
      size = length-set s.channels i (with_waiting xs (at s.channels i))
