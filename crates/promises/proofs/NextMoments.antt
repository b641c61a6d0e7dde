-- The moments of a Next before its send: none where a visit is open; else terms, through a round's end where one is, until there are slots to visit, and the
-- visit of the first of these. And a round's end, wherever a step comes to one.
use Prim.Native.Nat.{ℕ, zero, suc}
use mathlib.Core.Path.{◌≡◌, refl, sym, ap}
use mathlib.Core.Bool.{Bool, true, false, cond}
use mathlib.Core.List.{List, [], ◌∷◌, ◌++◌}
use mathlib.Core.Option.{Option, none, some}
use Rattle.lists.specs.Tests.{is_empty}
use Rattle.rules.specs.State.{State, round_over}
use Rattle.rules.specs.Next.{term_taken, round_ended, ending_round, visit_started, Chosen, start_first, scanning, terms_most, choose_by}
use Rattle.rules.proofs.Cases.{none-some, some_inj}
use Rattle.rules.proofs.RoundEnd.{Over, over_facts}
use Rattle.rules.proofs.Served.{Served}
use Rattle.promises.specs.Moments.{Moment, a_term, an_end, a_visit, end_of, scan_moments, choose_moments}

-- ---- a round's end

-- the state there, and the moments to it
pub data EndedBy (s : State) : State → List Moment → Type 0 where
  going_on : round_over s ≡ false → EndedBy s s []
  round-end : Over s → EndedBy s (round_ended s) (an_end ∷ [])

pub ended_by : (s : State) → EndedBy s (ending_round s) (end_of s)
ended_by s = go (round_over s) refl
  where
    go : (b : Bool) → round_over s ≡ b → EndedBy s (cond b (round_ended s) s) (cond b (an_end ∷ []) [])
    go true e = round-end (over_facts s e)
    go false e = going_on e

-- ---- the choice

pub data ScannedBy (x : Chosen) : State → List Moment → Type 0 where
  first-visit : {s : State} (i : ℕ) (rest : List ℕ) → s.scan.to_visit ≡ i ∷ rest → x.slot ≡ i → x.started ≡ 1 → x.state ≡ visit_started s i rest
      → ScannedBy x s (a_visit ∷ [])
  term-first : {s : State} {ms : List Moment} → s.scan.to_visit ≡ [] → round_over (term_taken s) ≡ false → ScannedBy x (term_taken s) ms → ScannedBy x s (a_term ∷ ms)
  last-term : {s : State} {ms : List Moment} → s.scan.to_visit ≡ [] → Over (term_taken s) → ScannedBy x (round_ended (term_taken s)) ms
      → ScannedBy x s (a_term ∷ an_end ∷ ms)

pub data ChosenBy (x : Chosen) (s : State) : List Moment → Type 0 where
  in-visit : x.started ≡ 0 → x.state ≡ s → ChosenBy x s []
  by-scan : {ms : List Moment} → s.scan.visit ≡ none → ScannedBy x s ms → ChosenBy x s ms

first-visited : (s : State) (x : Chosen) (n i : ℕ) (rest : List ℕ) → s.scan.to_visit ≡ i ∷ rest
    → some (record { slot = i; started = 1; terms = n; state = visit_started s i rest }) ≡ some x → ScannedBy x s (a_visit ∷ [])
first-visited s x n i rest t g =
    let e = some_inj g in
    first-visit i rest t (ap (λ (y : Chosen). y.slot) (sym e)) (ap (λ (y : Chosen). y.started) (sym e)) (ap (λ (y : Chosen). y.state) (sym e))

term-taken : {s s' : State} {x : Chosen} {ends ms : List Moment} → s.scan.to_visit ≡ [] → EndedBy (term_taken s) s' ends → ScannedBy x s' ms
    → ScannedBy x s (a_term ∷ ends ++ ms)
term-taken t (going_on e) later = term-first t e later
term-taken t (round-end o) later = last-term t o later

scans : (f n : ℕ) (s : State) (x : Chosen) → scanning f n s ≡ some x → ScannedBy x s (scan_moments f s)
unfolding scanning scan_moments
scans zero n s x g = go s.scan.to_visit refl g
  where
    go : (l : List ℕ) → s.scan.to_visit ≡ l → start_first l n s none ≡ some x → ScannedBy x s (a_visit ∷ [])
    go [] t g = absurd (none-some g)
    go (i ∷ rest) t g = first-visited s x n i rest t g
scans (suc f) n s x g = go (scans f (suc n) (ending_round (term_taken s)) x) s.scan.to_visit refl g
  where
    go : (scanning f (suc n) (ending_round (term_taken s)) ≡ some x → ScannedBy x (ending_round (term_taken s)) (scan_moments f (ending_round (term_taken s))))
        → (l : List ℕ) → s.scan.to_visit ≡ l → start_first l n s (scanning f (suc n) (ending_round (term_taken s))) ≡ some x
        → ScannedBy x s (cond (is_empty l) (a_term ∷ end_of (term_taken s) ++ scan_moments f (ending_round (term_taken s))) (a_visit ∷ []))
    go later [] t g = term-taken t (ended_by (term_taken s)) (later g)
    go later (i ∷ rest) t g = first-visited s x n i rest t g

pub chosen_by : {s : State} (N : Served s) → ChosenBy N.chosen s (choose_moments s.scan.visit s)
chosen_by {s} N = go s.scan.visit refl N.choosing-is
  where
    go : (o : Option ℕ) → s.scan.visit ≡ o → choose_by o s ≡ some N.chosen → ChosenBy N.chosen s (choose_moments o s)
    go none v g = by-scan v (scans (terms_most s) 0 s N.chosen g)
    go (some i) v g =
        let e = some_inj g in
        in-visit (ap (λ (y : Chosen). y.started) (sym e)) (ap (λ (y : Chosen). y.state) (sym e))
