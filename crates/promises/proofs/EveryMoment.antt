-- From calls to their moments, in both editions: what holds before a call and after it, and is left by a term, a visit started and a round's end, holds at
-- each of the call's moments. So a channel that waits after every call waits at every moment.
use Prim.Native.Nat.{ℕ, ◌<◌}
use mathlib.Core.Path.{◌≡◌, refl, sym, subst}
use mathlib.Core.Bool.{false}
use mathlib.Core.List.{List, [], ◌∷◌, ◌++◌}
use mathlib.Core.Option.{none}
use lib.ListN.{length, set}
use Rattle.lists.proofs.SlotsLaws.{if_eq}
use Rattle.lists.specs.Tests.{is_empty}
use Rattle.rules.specs.State.{State, at, held}
use Rattle.rules.specs.Next.{term_taken, round_ended, granting, visit_started, Chosen}
use Rattle.rules.specs.Calls.{Call, step, run, AllInRange}
use Rattle.rules.specs.Facts.{midway, SoundTo, Sound}
use Rattle.rules.proofs.Channels.{at_same, at_other}
use Rattle.rules.proofs.Rows.{visit-lt}
use Rattle.rules.proofs.RoundEnd.{Over}
use Rattle.rules.proofs.Steps.{term-kept, ended-kept, start-kept, settle_kept}
use Rattle.rules.proofs.Kept.{step_kept}
use Rattle.promises.specs.Moments.{Moment, a_send, moved, moved_by, moments_of, moments_along}
use Rattle.promises.specs.Rounds.{Waiting, Waits, MomentsBefore, MomentsThroughout, Steady, Throughout}
use Rattle.promises.proofs.Lawful.{moved-visit, moved-send, term-rest, moved_append}
use Rattle.promises.proofs.NextMoments.{EndedBy, going_on, round-end, ScannedBy, first-visit, term-first, last-term, ChosenBy, in-visit, by-scan}
use Rattle.promises.proofs.Made.{chosen-leads, Made, unserved, serving, other, made, moments_lead, moments-along}

-- ---- lists of moments

pub before-map : {P Q : State → Type 0} → ((s : State) → P s → Q s) → (ms : List Moment) (s : State) → MomentsBefore P s ms → MomentsBefore Q s ms
unfolding MomentsBefore
before-map g [] s a = tt
before-map g (m ∷ ms) s a = (g s a.0, before-map g ms (moved s m) a.1)

before_append : (P : State → Type 0) (xs ys : List Moment) (s : State) → MomentsBefore P s xs → MomentsBefore P (moved_by s xs) ys → MomentsBefore P s (xs ++ ys)
unfolding MomentsBefore moved_by
before_append P [] ys s a b = b
before_append P (m ∷ xs) ys s a b = (a.0, before_append P xs ys (moved s m) a.1 b)

pub before-first : (P : State → Type 0) (xs ys : List Moment) (s : State) → MomentsBefore P s (xs ++ ys) → MomentsBefore P s xs
unfolding MomentsBefore
before-first P [] ys s a = tt
before-first P (m ∷ xs) ys s a = (a.0, before-first P xs ys (moved s m) a.1)

pub before-rest : (P : State → Type 0) (xs ys : List Moment) (s : State) → MomentsBefore P s (xs ++ ys) → MomentsBefore P (moved_by s xs) ys
unfolding MomentsBefore moved_by
before-rest P [] ys s a = a
before-rest P (m ∷ xs) ys s a = before-rest P xs ys (moved s m) a.1

throughout_append : (P : State → Type 0) (xs ys : List Moment) (s : State) → MomentsBefore P s xs → MomentsThroughout P (moved_by s xs) ys
    → MomentsThroughout P s (xs ++ ys)
throughout_append P xs ys s a b = (before_append P xs ys s a b.0, subst P (sym (moved_append xs ys s)) b.1)

-- at the state between two parts of a list
pub throughout_at : (P : State → Type 0) (xs ys : List Moment) (s : State) → MomentsThroughout P s (xs ++ ys) → P (moved_by s xs)
unfolding MomentsBefore moved_by
throughout_at P [] [] s a = a.1
throughout_at P [] (m ∷ ys) s a = a.0.0
throughout_at P (m ∷ xs) ys s a = throughout_at P xs ys (moved s m) (a.0.1, a.1)

-- ---- lists of calls

-- what holds throughout holds at the start, and so does what follows from it throughout
pub at-start : (P : State → Type 0) (cs : List Call) {s : State} → Throughout P s cs → P s
unfolding Throughout
at-start P [] p = p
at-start P (c ∷ cs) p = p.0

pub throughout_map : {P Q : State → Type 0} → ((s : State) → P s → Q s) → (cs : List Call) (s : State) → Throughout P s cs → Throughout Q s cs
unfolding Throughout
throughout_map g [] s p = g s p
throughout_map g (c ∷ cs) s p = (g s p.0, throughout_map g cs (step s c) p.1)

-- ---- what holds after every call

-- a term taken, a round ended and a visit started leave it, and it is not the round's end that brings it about
pub record Stable (P : State → Type 0) : Type 0 where
  pub by-term : (s : State) → P s → P (term_taken s)
  pub by_end : {s : State} → SoundTo midway s → Over s → P s → P (round_ended s)
  pub from_end : {s : State} → SoundTo midway s → Over s → P (round_ended s) → P s
  pub by-visit : {s : State} → Sound s → (j : ℕ) (rest : List ℕ) → s.scan.visit ≡ none → s.scan.to_visit ≡ j ∷ rest → P s → P (visit_started s j rest)

module _ {P : State → Type 0} (K : Stable P) where
  scanned_throughout : {x : Chosen} {s : State} {ms : List Moment} → Sound s → s.scan.visit ≡ none → is_empty s.rows ≡ false → ScannedBy x s ms → P s
      → MomentsThroughout P s ms
  unfolding MomentsBefore moved_by moved
  scanned_throughout {s = s} S v e (first-visit j rest t a b c) p = ((p, tt), rw (moved-visit s j rest t) (K.by-visit S j rest v t p))
  scanned_throughout {s = s} S v e (term-first t n later) p =
      let r = scanned_throughout (term-rest S v e n) v e later (K.by-term s p) in
      ((p, r.0), r.1)
  scanned_throughout {s = s} S v e (last-term t o later) p =
      let T : SoundTo midway (term_taken s) = term-kept S v e in
      let q : P (term_taken s) = K.by-term s p in
      let r = scanned_throughout (ended-kept T o) v e later (K.by_end T o q) in
      ((p, (q, r.0)), r.1)

  chosen_throughout : {s : State} {x : Chosen} {ms : List Moment} → Sound s → is_empty s.rows ≡ false → ChosenBy x s ms → P s → MomentsThroughout P s ms
  unfolding MomentsBefore moved_by
  chosen_throughout S e (in-visit z same) p = (tt, p)
  chosen_throughout S e (by-scan v way) p = scanned_throughout S v e way p

  ended_throughout : {s s' : State} {ms : List Moment} → SoundTo midway s → EndedBy s s' ms → P s' → MomentsThroughout P s ms
  unfolding MomentsBefore moved_by moved
  ended_throughout T (going_on e) p = (tt, p)
  ended_throughout T (round-end o) p = ((K.from_end T o p, tt), p)

  made_throughout : {s : State} {c : Call} {s' : State} {ms : List Moment} → Sound s → Made s c s' ms → P s → P s' → MomentsThroughout P s ms
  unfolding MomentsBefore moved_by moved
  made_throughout S (unserved q) p p' = (tt, p)
  made_throughout {s} S (serving {choosing = choosing} {ends = ends} e N C E) p p' =
      let x = N.chosen in
      let there : moved_by s choosing ≡ x.state = (chosen-leads S e C).there in
      let before = chosen_throughout S e C p in
      let T : SoundTo midway (moved x.state a_send) =
      subst (SoundTo midway) (sym (moved-send x.state x.slot N.head N.rest N.choice.visit N.still))
      (settle_kept N.choice.sound x.slot N.head N.rest N.choice.visit N.still)
      in
      let behind = ended_throughout T E p' in
      throughout_append P choosing (a_send ∷ ends) s before.0
      (subst (λ (r : State). MomentsThroughout P r (a_send ∷ ends)) (sym there) ((subst P there before.1, behind.0), behind.1))
  made_throughout S (other n) p p' = ((p, tt), p')

  pub calls_throughout : (cs : List Call) {s : State} → AllInRange cs → Sound s → Throughout P s cs → MomentsThroughout P s (moments_along s cs)
  unfolding Throughout moments_along MomentsBefore moved_by
  calls_throughout [] f S p = (tt, p)
  calls_throughout (c ∷ cs) {s} f S p =
      throughout_append P (moments_of s c) (moments_along (step s c) cs) s (made_throughout S (made S c) p.0 (at-start P cs p.1)).0
      (subst (λ (r : State). MomentsThroughout P r (moments_along (step s c) cs)) (sym (moments_lead c f.0 S).there)
      (calls_throughout cs f.1 (step_kept c f.0 S) p.1))

-- ---- a record waiting

visit-waiting : {s : State} → Sound s → (i j : ℕ) (rest : List ℕ) → s.scan.visit ≡ none → s.scan.to_visit ≡ j ∷ rest
    → (at (visit_started s j rest).channels i).waiting ≡ (at s.channels i).waiting
visit-waiting {s} S i j rest v t =
    let c = granting (at s.channels j) in
    let l : j < length s.channels = rw S.size (visit-lt (start-kept S j rest v t) j refl) in
    if_eq i j
    (λ q. let here : at (set s.channels j c) i ≡ c = rw q (at_same s.channels j c l) in rw (here, q) refl)
    (λ n. rw (at_other s.channels j i c n) refl)

waiting_stable : (i : ℕ) → Stable (Waiting i)
waiting_stable i =
    record {
      by-term = λ s w. w;
      by_end = λ T o w. w;
      from_end = λ T o w. w;
      by-visit = λ S j rest v t w. rw (visit-waiting S i j rest v t) w;
    }

-- "after every call" is at every moment
pub calls_wait : (i : ℕ) (cs : List Call) {s : State} → AllInRange cs → Sound s → Throughout (Waiting i) s cs → MomentsThroughout (Waiting i) s (moments_along s cs)
calls_wait i cs f S w = calls_throughout (waiting_stable i) cs f S w

before-waits : (k i : ℕ) (ms : List Moment) (s : State) → MomentsBefore (λ r. r.order ≡ k) s ms → MomentsBefore (Waiting i) s ms → MomentsBefore (Waits k i) s ms
unfolding MomentsBefore
before-waits k i [] s a b = tt
before-waits k i (m ∷ ms) s a b = (record { order_is = a.0; waits = b.0 }, before-waits k i ms (moved s m) a.1 b.1)

-- so a channel that waits after every call waits through a round of these calls' moments, where the order is k before each of them and, in edition 1, at the last
pub calls_steady : (k i : ℕ) (cs : List Call) {s : State} → AllInRange cs → Sound s → Throughout (Waiting i) s cs
    → MomentsBefore (λ r. r.order ≡ k) s (moments_along s cs) → (held (run s cs) ≡ false → (run s cs).order ≡ k) → Steady k i s (moments_along s cs)
calls_steady k i cs {s} f S w o l =
    let a = calls_wait i cs f S w in
    let there : moved_by s (moments_along s cs) ≡ run s cs = (moments-along cs f S).there in
    record {
      before = before-waits k i (moments_along s cs) s o a.0;
      last = record { order_is = subst (λ (r : State). held r ≡ false → r.order ≡ k) (sym there) l; waits = a.1 };
    }
