-- Where a moment may be: a term with no visit open, none to visit and the round not over, its end where it is over, a visit with a slot to visit, a send in a
-- visit whose slot has a record, another call on a sound state. Each lawful moment keeps soundness, as far as it goes inside a call.
use Prim.Native.Nat.{ℕ}
use mathlib.Core.Path.{◌≡◌, refl, sym, ap, ◌∙◌, subst}
use mathlib.Core.Bool.{false}
use mathlib.Core.List.{List, [], ◌∷◌, ◌++◌}
use mathlib.Core.Option.{Option, none, some}
use native.Mathlib.Nat.{le_refl}
use Rattle.lists.specs.Tests.{is_empty}
use Rattle.rules.specs.State.{Record, State, at, round_over}
use Rattle.rules.specs.Next.{term_taken, visit_started, paying, settled}
use Rattle.rules.specs.Calls.{InRange}
use Rattle.rules.specs.Facts.{Stage, midway, after_grant, SoundTo, Sound}
use Rattle.rules.proofs.Changes.{slot-moved}
use Rattle.rules.proofs.RoundEnd.{Over, ending_not}
use Rattle.rules.proofs.Steps.{term-kept, ended-kept, ending_kept, start-kept, settle_kept}
use Rattle.rules.proofs.Choosing.{sound-wider}
use Rattle.rules.proofs.Kept.{step_kept}
use Rattle.promises.specs.Moments.{Moment, a_term, an_end, a_visit, a_send, a_call, first_visited, head_sent, visit_sends, moved, moved_by, is_next}

abbrev pub Can : State → Moment → Type 0
Can s a_term = (s.scan.visit ≡ none) × (s.scan.to_visit ≡ []) × (is_empty s.rows ≡ false) × (round_over s ≡ false)
Can s an_end = Over s
Can s a_visit = (j : ℕ) × (rest : List ℕ) × (s.scan.visit ≡ none) × (s.scan.to_visit ≡ j ∷ rest)
Can s a_send = (j : ℕ) × (h : Record) × (rest : List Record) × (s.scan.visit ≡ some j) × ((at s.channels j).waiting ≡ h ∷ rest)
Can s (a_call c) = (is_next c ≡ false) × InRange c × Sound s

abbrev pub Lawful : State → List Moment → Type 0
Lawful s [] = Unit {0}
Lawful s (m ∷ ms) = Can s m × Lawful (moved s m) ms

-- ---- the state after a visit started and after a record sent

pub moved-visit : (s : State) (j : ℕ) (rest : List ℕ) → s.scan.to_visit ≡ j ∷ rest → moved s a_visit ≡ visit_started s j rest
unfolding moved
moved-visit s j rest e = ap (λ (l : List ℕ). first_visited l s) e

pub moved-send : (s : State) (j : ℕ) (h : Record) (rest : List Record) → s.scan.visit ≡ some j → (at s.channels j).waiting ≡ h ∷ rest
    → moved s a_send ≡ settled rest s j (paying h rest (at s.channels j))
unfolding moved
moved-send s j h rest v w = ap (λ (o : Option ℕ). visit_sends o s) v ∙ ap (λ (l : List Record). head_sent l s j) w

-- ---- soundness

-- where no visit is open no deficit is above 1,023, so nothing of a grant is owed
ungranted : {b : Stage} {s : State} → SoundTo b s → s.scan.visit ≡ none → SoundTo midway s
ungranted S v =
    record {
      edition-is = S.edition-is;
      size = S.size;
      slot = λ j. slot-moved (S.slot j) refl (λ q. q) (λ q. refl) (rw v (le_refl _));
      order-above = S.order-above;
      order_is = S.order_is;
      order_below = S.order_below;
      position = S.position;
      part = S.part;
      no_column = S.no_column;
      end-ok = tt;
      pool = S.pool;
    }

-- a term that comes to no round's end leaves a state at rest
pub term-rest : {s : State} → Sound s → s.scan.visit ≡ none → is_empty s.rows ≡ false → round_over (term_taken s) ≡ false → Sound (term_taken s)
term-rest {s} S v e n = subst Sound (ending_not (term_taken s) n) (ending_kept (term-kept S v e))

pub moved-kept : (m : Moment) {s : State} → Can s m → SoundTo after_grant s → SoundTo after_grant (moved s m)
unfolding moved
moved-kept a_term (v, t, e, n) S = sound-wider (term-kept S v e)
moved-kept an_end o S = sound-wider (ended-kept (ungranted S o.no_visit) o)
moved-kept a_visit {s} (j, rest, v, t) S = subst (SoundTo after_grant) (sym (moved-visit s j rest t)) (start-kept S j rest v t)
moved-kept a_send {s} (j, h, rest, v, w) S = subst (SoundTo after_grant) (sym (moved-send s j h rest v w)) (sound-wider (settle_kept S j h rest v w))
moved-kept (a_call c) (n, f, T) S = sound-wider (step_kept c f T)

pub moved-by-kept : (ms : List Moment) {s : State} → Lawful s ms → SoundTo after_grant s → SoundTo after_grant (moved_by s ms)
unfolding moved_by
moved-by-kept [] l S = S
moved-by-kept (m ∷ ms) l S = moved-by-kept ms l.1 (moved-kept m l.0 S)

-- ---- lists of moments

pub moved_append : (xs ys : List Moment) (s : State) → moved_by s (xs ++ ys) ≡ moved_by (moved_by s xs) ys
unfolding moved_by
moved_append [] ys s = refl
moved_append (m ∷ xs) ys s = moved_append xs ys (moved s m)

pub lawful_append : (xs ys : List Moment) (s : State) → Lawful s xs → Lawful (moved_by s xs) ys → Lawful s (xs ++ ys)
unfolding moved_by
lawful_append [] ys s a b = b
lawful_append (m ∷ xs) ys s a b = (a.0, lawful_append xs ys (moved s m) a.1 b)

pub lawful-first : (xs ys : List Moment) (s : State) → Lawful s (xs ++ ys) → Lawful s xs
lawful-first [] ys s a = tt
lawful-first (m ∷ xs) ys s a = (a.0, lawful-first xs ys (moved s m) a.1)

pub lawful-rest : (xs ys : List Moment) (s : State) → Lawful s (xs ++ ys) → Lawful (moved_by s xs) ys
unfolding moved_by
lawful-rest [] ys s a = a
lawful-rest (m ∷ xs) ys s a = lawful-rest xs ys (moved s m) a.1
