-- What the moments of calls count is what their answers say: a Next sends one record, of its slot, and starts a visit of it exactly where the mark is 1.
use Prim.Native.Nat.{ℕ, ◌+◌}
use mathlib.Core.Path.{◌≡◌, refl, sym, ap}
use mathlib.Core.Bool.{Bool, true, false, cond}
use mathlib.Core.List.{List, [], ◌∷◌, ◌++◌}
use native.Mathlib.Nat.{add-zero, zero-add}
use native.Mathlib.Omega.{arith}
use lib.Dec.{eqb}
use Rattle.rules.specs.State.{State}
use Rattle.rules.specs.Next.{Sent, Chosen, term_taken}
use Rattle.rules.specs.Calls.{Call, to_next, step, AllInRange}
use Rattle.rules.specs.Facts.{Sound}
use Rattle.rules.proofs.Served.{Served}
use Rattle.rules.proofs.Kept.{step_kept}
use Rattle.promises.specs.Moments.{Moment, a_term, an_end, a_visit, a_send, a_call, moved, moved_by, moments_of, moments_along, sent_at, visits_at, cost_at, moments_total}
use Rattle.promises.specs.Rounds.{counted, one_sent, visits_of, cost_of, total}
use Rattle.promises.proofs.EachCall.{counted-given, counted-refused, counted-other}
use Rattle.promises.proofs.NextMoments.{EndedBy, going_on, round-end, ScannedBy, first-visit, term-first, last-term, ChosenBy, in-visit, by-scan}
use Rattle.promises.proofs.Made.{chosen-leads, Made, unserved, serving, other, made, moments_lead}

pub total_append : (f : State → Moment → ℕ) (xs ys : List Moment) (s : State)
    → moments_total f s (xs ++ ys) ≡ moments_total f s xs + moments_total f (moved_by s xs) ys
unfolding moments_total moved_by
total_append f [] ys s = omega arith
total_append f (m ∷ xs) ys s = omega (arith, total_append f xs ys (moved s m))

-- ---- a count over moments and a count of answers that agree

-- the first is 0 but for visits and sends: where a slot is chosen it comes to `before`, and with the send to the second
pub record SameCount (f : State → Moment → ℕ) (a : Sent → ℕ) : Type 0 where
  pub no_term : (s : State) → f s a_term ≡ 0
  pub no_end : (s : State) → f s an_end ≡ 0
  pub no_call : (s : State) (c : Call) → f s (a_call c) ≡ 0
  pub before : Chosen → ℕ
  pub at-visit : (s : State) (x : Chosen) (i : ℕ) (rest : List ℕ) → s.scan.to_visit ≡ i ∷ rest → x.slot ≡ i → x.started ≡ 1 → f s a_visit ≡ before x
  pub no_visit : (x : Chosen) → x.started ≡ 0 → 0 ≡ before x
  pub at-send : {s : State} (N : Served s) → before N.chosen + f N.chosen.state a_send ≡ counted a s to_next

module _ {f : State → Moment → ℕ} {a : Sent → ℕ} (A : SameCount f a) where
  scanned-total : {x : Chosen} {s : State} {ms : List Moment} → ScannedBy x s ms → moments_total f s ms ≡ A.before x
  unfolding moments_total moved
  scanned-total {x} {s} (first-visit i rest t e o g) = let z = A.at-visit s x i rest t e o in omega arith
  scanned-total {s = s} (term-first t n later) = let z = A.no_term s in omega (arith, scanned-total later)
  scanned-total {s = s} (last-term t o later) = let z = A.no_term s in let y = A.no_end (term_taken s) in omega (arith, scanned-total later)

  ended-total : {s s' : State} {ms : List Moment} → EndedBy s s' ms → moments_total f s ms ≡ 0
  unfolding moments_total
  ended-total (going_on e) = refl
  ended-total {s} (round-end o) = let z = A.no_end s in omega arith

  chosen-total : {s : State} {x : Chosen} {ms : List Moment} → ChosenBy x s ms → moments_total f s ms ≡ A.before x
  unfolding moments_total
  chosen-total {s} {x} (in-visit o g) = A.no_visit x o
  chosen-total (by-scan v way) = scanned-total way

  pub made-total : {s : State} {c : Call} {s' : State} {ms : List Moment} → Sound s → Made s c s' ms → moments_total f s ms ≡ counted a s c
  unfolding moments_total
  made-total {s} S (unserved q) = sym (counted-refused a s q)
  made-total {s} S (serving {choosing = choosing} {ends = ends} e N C E) =
      let there : moved_by s choosing ≡ N.chosen.state = (chosen-leads S e C).there in
      let now : moments_total f (moved_by s choosing) (a_send ∷ ends) ≡ moments_total f N.chosen.state (a_send ∷ ends) =
      ap (λ (r : State). moments_total f r (a_send ∷ ends)) there
      in
      let chosen = chosen-total C in
      let sent = A.at-send N in
      let none = ended-total E in
      omega (arith, total_append f choosing (a_send ∷ ends) s)
  made-total {s} S (other {c} n) = let z = A.no_call s c in let y = counted-other a s c n in omega arith

  pub calls-total : (cs : List Call) (s : State) → AllInRange cs → Sound s → moments_total f s (moments_along s cs) ≡ total a s cs
  unfolding moments_along moments_total total
  calls-total [] s fit S = refl
  calls-total (c ∷ cs) s fit S =
      let there : moments_total f (moved_by s (moments_of s c)) (moments_along (step s c) cs) ≡ moments_total f (step s c) (moments_along (step s c) cs) =
      ap (λ (r : State). moments_total f r (moments_along (step s c) cs)) (moments_lead c fit.0 S).there
      in
      let now = made-total S (made S c) in
      let later = calls-total cs (step s c) fit.1 (step_kept c fit.0 S) in
      omega (arith, total_append f (moments_of s c) (moments_along (step s c) cs) s)

-- ---- the three counts

pub sends-same : SameCount sent_at one_sent
sends-same =
    record {
      no_term = λ s. refl;
      no_end = λ s. refl;
      no_call = λ s c. refl;
      before = λ x. 0;
      at-visit = λ s x i rest t e o. refl;
      no_visit = λ x o. refl;
      at-send = λ {s} N. sym (counted-given one_sent s N.answer);
    }

pub visits-same : (i : ℕ) → SameCount (visits_at i) (visits_of i)
visits-same i =
    record {
      no_term = λ s. refl;
      no_end = λ s. refl;
      no_call = λ s c. refl;
      before = λ x. cond (eqb i x.slot) x.started 0;
      at-visit = λ s x j rest t e o. rw (t, e, o) refl;
      no_visit = λ x o. rw o (none-counted (eqb i x.slot));
      at-send = λ {s} N. rw (counted-given (visits_of i) s N.answer) (add-zero _);
    }
  where
    none-counted : (b : Bool) → ◌≡◌ {A = ℕ} 0 (cond b 0 0)
    none-counted true = refl
    none-counted false = refl

pub costs_same : (i : ℕ) → SameCount (cost_at i) (cost_of i)
costs_same i =
    record {
      no_term = λ s. refl;
      no_end = λ s. refl;
      no_call = λ s c. refl;
      before = λ x. 0;
      at-visit = λ s x j rest t e o. refl;
      no_visit = λ x o. refl;
      at-send = λ {s} N. rw (counted-given (cost_of i) s N.answer, N.choice.visit, N.still) (zero-add _);
    }
