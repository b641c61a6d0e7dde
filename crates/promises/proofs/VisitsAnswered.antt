-- The slots visited at the moments of calls are those that their answers name with the start mark 1, in order.
use Prim.Native.Nat.{ℕ}
use mathlib.Core.Path.{◌≡◌, refl, sym, ap, ap₂, ◌∙◌}
use mathlib.Core.Bool.{cond}
use mathlib.Core.List.{List, [], ◌∷◌, ◌++◌, append-nil, append_assoc}
use lib.Dec.{eqb}
use Rattle.rules.specs.State.{State}
use Rattle.rules.specs.Next.{Chosen}
use Rattle.rules.specs.Calls.{Call, reply, answer_by, step, AllInRange}
use Rattle.rules.specs.Facts.{Sound}
use Rattle.rules.proofs.Cases.{only_next}
use Rattle.rules.proofs.Kept.{step_kept}
use Rattle.promises.specs.Histories.{along}
use Rattle.promises.specs.Moments.{Moment, a_send, moved, moved_by, moments_of, moments_along}
use Rattle.promises.specs.Sheets.{started_at, visited_by, visited}
use Rattle.promises.proofs.NextMoments.{EndedBy, going_on, round-end, ScannedBy, first-visit, term-first, last-term, ChosenBy, in-visit, by-scan}
use Rattle.promises.proofs.Made.{chosen-leads, Made, unserved, serving, other, made, moments_lead}

visited_append : (xs ys : List Moment) (s : State) → visited_by s (xs ++ ys) ≡ visited_by s xs ++ visited_by (moved_by s xs) ys
unfolding visited_by moved_by
visited_append [] ys s = refl
visited_append (m ∷ xs) ys s =
    ap (λ (l : List ℕ). started_at s m ++ l) (visited_append xs ys (moved s m))
    ∙ sym (append_assoc (started_at s m) (visited_by (moved s m) xs) (visited_by (moved_by (moved s m) xs) ys))

-- ---- one call

abbrev started_in : Chosen → List ℕ
started_in x = cond (eqb x.started 1) (x.slot ∷ []) []

scanned-visited : {x : Chosen} {s : State} {ms : List Moment} → ScannedBy x s ms → visited_by s ms ≡ started_in x
unfolding visited_by moved
scanned-visited (first-visit i rest t e o g) = rw (t, e, o) refl
scanned-visited (term-first t n later) = scanned-visited later
scanned-visited (last-term t o later) = scanned-visited later

chosen-visited : {s : State} {x : Chosen} {ms : List Moment} → ChosenBy x s ms → visited_by s ms ≡ started_in x
unfolding visited_by
chosen-visited (in-visit o g) = rw o refl
chosen-visited (by-scan v way) = scanned-visited way

ended-visited : {s s' : State} {ms : List Moment} → EndedBy s s' ms → visited_by s ms ≡ []
unfolding visited_by
ended-visited (going_on e) = refl
ended-visited (round-end o) = refl

made-visited : {s : State} {c : Call} {s' : State} {ms : List Moment} → Sound s → Made s c s' ms → visited_by s ms ≡ visited c (answer_by s c)
unfolding visited_by reply
made-visited S (unserved q) = rw q refl
made-visited {s} S (serving {choosing = choosing} {ends = ends} e N C E) =
    visited_append choosing (a_send ∷ ends) s
    ∙ ap₂ (λ (a b : List ℕ). a ++ b) (chosen-visited C)
    (ap (λ (r : State). visited_by (moved r a_send) ends) (chosen-leads S e C).there ∙ ended-visited E)
    ∙ append-nil (started_in N.chosen) ∙ rw N.answer refl
made-visited {s} S (other {c} n) = sym (only_next [] (λ a. cond (eqb a.started 1) (a.slot ∷ []) []) c s n)

-- ---- a list of calls

pub calls-visited : (cs : List Call) (s : State) → AllInRange cs → Sound s → visited_by s (moments_along s cs) ≡ along visited s cs
unfolding moments_along visited_by along
calls-visited [] s f S = refl
calls-visited (c ∷ cs) s f S =
    visited_append (moments_of s c) (moments_along (step s c) cs) s
    ∙ ap₂ (λ (a b : List ℕ). a ++ b) (made-visited S (made S c))
    (ap (λ (r : State). visited_by r (moments_along (step s c) cs)) (moments_lead c f.0 S).there ∙ calls-visited cs (step s c) f.1 (step_kept c f.0 S))
