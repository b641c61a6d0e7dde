-- What calls are made of: their moments are lawful and lead to what the calls leave. A Next chooses and sends, and the round may be over then; any other call
-- is one moment.
use mathlib.Core.Path.{◌≡◌, refl, sym, ap, ◌∙◌, subst}
use mathlib.Core.Bool.{Bool, true, false, cond, ◌||◌}
use mathlib.Core.List.{List, [], ◌∷◌, ◌++◌}
use mathlib.Core.Option.{none}
use Rattle.lists.specs.Tests.{is_empty}
use Rattle.answers.specs.Answer.{Refusal, refused}
use Rattle.rules.specs.State.{State, at}
use Rattle.rules.specs.Reply.{after}
use Rattle.rules.specs.Next.{ending_round, paying, settled, Chosen, next_call}
use Rattle.rules.specs.Calls.{Call, to_next, step, run, InRange, AllInRange}
use Rattle.rules.specs.Facts.{Sound}
use Rattle.rules.proofs.Served.{Served, served, eight}
use Rattle.rules.proofs.Parking.{parked-next}
use Rattle.rules.proofs.Steps.{term-kept, ended-kept}
use Rattle.rules.proofs.Kept.{step_kept}
use Rattle.promises.specs.Moments.{Moment, a_term, an_end, a_visit, a_send, a_call, moved, moved_by, end_of, choose_moments, next_moments, is_next, moments_of, moments_along}
use Rattle.promises.proofs.EachCall.{is-next, step-next}
use Rattle.promises.proofs.Lawful.{Can, Lawful, moved-visit, moved-send, term-rest, moved_append, lawful_append}
use Rattle.promises.proofs.NextMoments.{EndedBy, going_on, round-end, ended_by, ScannedBy, first-visit, term-first, last-term, ChosenBy, in-visit, by-scan, chosen_by}

-- ---- these moments are lawful and lead there

pub record Leads (s : State) (ms : List Moment) (s' : State) : Type 0 where
  pub lawful : Lawful s ms
  pub there : moved_by s ms ≡ s'

leads_append : {s s' s'' : State} (xs ys : List Moment) → Leads s xs s' → Leads s' ys s'' → Leads s (xs ++ ys) s''
leads_append {s} {s'} {s''} xs ys a b =
    record {
      lawful = lawful_append xs ys s a.lawful (subst (λ (r : State). Lawful r ys) (sym a.there) b.lawful);
      there = moved_append xs ys s ∙ ap (λ (r : State). moved_by r ys) a.there ∙ b.there;
    }

leads-none : (s : State) → Leads s [] s
unfolding moved_by
leads-none s = record { lawful = tt; there = refl }

leads_one : {s s' : State} (m : Moment) → Can s m → moved s m ≡ s' → Leads s (m ∷ []) s'
unfolding moved_by
leads_one m c e = record { lawful = (c, tt); there = e }

-- a round's end, where there is one
ended-leads : {s s' : State} {ms : List Moment} → EndedBy s s' ms → Leads s ms s'
unfolding moved
ended-leads {s} (going_on e) = leads-none s
ended-leads (round-end o) = leads_one an_end o refl

scanned-leads : {x : Chosen} {s : State} {ms : List Moment} → Sound s → s.scan.visit ≡ none → is_empty s.rows ≡ false → ScannedBy x s ms
    → Leads s ms x.state
unfolding moved
scanned-leads {s = s} S v e (first-visit i rest t a b c) = leads_one a_visit (i, rest, v, t) (moved-visit s i rest t ∙ sym c)
scanned-leads S v e (term-first {ms = ms} t n later) =
    leads_append (a_term ∷ []) ms (leads_one a_term (v, t, e, S.end-ok) refl) (scanned-leads (term-rest S v e n) v e later)
scanned-leads S v e (last-term {ms = ms} t o later) =
    leads_append (a_term ∷ []) (an_end ∷ ms) (leads_one a_term (v, t, e, S.end-ok) refl)
    (leads_append (an_end ∷ []) ms (leads_one an_end o refl) (scanned-leads (ended-kept (term-kept S v e) o) v e later))

pub chosen-leads : {s : State} {x : Chosen} {ms : List Moment} → Sound s → is_empty s.rows ≡ false → ChosenBy x s ms → Leads s ms x.state
chosen-leads {s} S e (in-visit z same) = subst (Leads s []) (sym same) (leads-none s)
chosen-leads S e (by-scan v way) = scanned-leads S v e way

-- ---- any call, and any list of calls

-- what a call leaves, and its moments: none of a Next that is refused, those of a Next that sends, one of any other call
pub data Made (s : State) : Call → State → List Moment → Type 0 where
  unserved : {n : Refusal} → next_call s ≡ refused n → Made s to_next s []
  serving : {s' : State} {choosing ends : List Moment} → is_empty s.rows ≡ false → (N : Served s) → ChosenBy N.chosen s choosing
      → EndedBy (moved N.chosen.state a_send) s' ends → Made s to_next s' (choosing ++ a_send ∷ ends)
  other : {c : Call} → is_next c ≡ false → Made s c (step s c) (a_call c ∷ [])

next-made : {s : State} → Sound s → is_empty s.rows ≡ false → Served s → Made s to_next (after s (next_call s)) (next_moments s)
next-made {s} S e N =
    let x = N.chosen in
    let choosing = choose_moments s.scan.visit s in
    let m : moved x.state a_send ≡ settled N.rest x.state x.slot (paying N.head N.rest (at x.state.channels x.slot)) =
    moved-send x.state x.slot N.head N.rest N.choice.visit N.still
    in
    let left : ending_round (moved x.state a_send) ≡ after s (next_call s) = rw (m, N.answer) refl in
    subst (λ (r : State). Made s to_next r (next_moments s)) left
    (subst (λ (r : State). Made s to_next (ending_round (moved x.state a_send)) (choosing ++ a_send ∷ end_of (moved r a_send)))
    (sym (chosen-leads S e (chosen_by N)).there) (serving e N (chosen_by N) (ended_by (moved x.state a_send))))

pub made : {s : State} → Sound s → (c : Call) → Made s c (step s c) (moments_of s c)
unfolding moments_of
made {s} S c = go (is_next c) refl
  where
    none_of : {n : Refusal} → next_call s ≡ refused n → Made s to_next (after s (next_call s)) []
    none_of q = subst (λ (r : State). Made s to_next r []) (sym (ap (after s) q)) (unserved q)

    next : (p : Bool) → s.parked ≡ p → (b : Bool) → is_empty s.rows ≡ b → Made s to_next (after s (next_call s)) (cond (p || b) [] (next_moments s))
    next true p b e = none_of (parked-next s p)
    next false p true e = none_of (eight s e p)
    next false p false e = next-made S e (served S e p)

    go : (b : Bool) → is_next c ≡ b → Made s c (step s c) (cond b (cond (s.parked || is_empty s.rows) [] (next_moments s)) (a_call c ∷ []))
    go true e = rw (is-next c e, step-next s) (next s.parked refl (is_empty s.rows) refl)
    go false e = other e

made-leads : {s : State} {c : Call} {s' : State} {ms : List Moment} → InRange c → Sound s → Made s c s' ms → Leads s ms s'
unfolding moved
made-leads {s} f S (unserved q) = leads-none s
made-leads f S (serving {choosing = choosing} {ends = ends} e N C E) =
    leads_append choosing (a_send ∷ ends) (chosen-leads S e C)
    (leads_append (a_send ∷ []) ends (leads_one a_send (N.chosen.slot, N.head, N.rest, N.choice.visit, N.still) refl) (ended-leads E))
made-leads f S (other {c} n) = leads_one (a_call c) (n, f, S) refl

pub moments_lead : (c : Call) {s : State} → InRange c → Sound s → Leads s (moments_of s c) (step s c)
moments_lead c f S = made-leads f S (made S c)

-- the moments of a list of calls are lawful and lead to what the calls leave
pub moments-along : (cs : List Call) {s : State} → AllInRange cs → Sound s → Leads s (moments_along s cs) (run s cs)
unfolding moments_along run
moments-along [] {s} f S = leads-none s
moments-along (c ∷ cs) {s} f S =
    leads_append (moments_of s c) (moments_along (step s c) cs) (moments_lead c f.0 S) (moments-along cs f.1 (step_kept c f.0 S))
