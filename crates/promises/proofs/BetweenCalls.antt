-- Edition 1, between calls: with the order equal after every call it is so at every moment, and inside a call there is no start, so a round over calls, as
-- document 01 has it, is a round over their moments. (In edition 2 a round can start inside a call, but not where the order is always the rows' own.)
use Prim.Native.Nat.{ℕ, suc, ◌+◌, ◌-◌, ◌*◌, ◌%◌, ◌^◌, ◌≤◌, ◌<◌}
use mathlib.Core.Path.{◌≡◌, refl, sym, ap, ◌∙◌, subst}
use mathlib.Core.Bool.{Bool, true, false, true≢false}
use mathlib.Core.List.{List, [], ◌∷◌, ◌++◌}
use mathlib.Core.Logic.{◌⊎◌, inl, inr}
use mathlib.Core.Option.{none}
use native.Mathlib.Nat.{add-zero, add_assoc}
use native.Mathlib.Omega.{arith}
use lib.Dec.{eqb}
use Rattle.bits.proofs.BitLaws.{parity}
use Rattle.lists.specs.Tests.{is_empty}
use Rattle.spread.proofs.Visits.{even_next}
use Rattle.rules.specs.Numbers.{holding}
use Rattle.rules.specs.State.{State, fresh, held}
use Rattle.rules.specs.Next.{next_position, term_taken, Chosen}
use Rattle.rules.specs.Calls.{Call, step, run, AllInRange}
use Rattle.rules.specs.Facts.{Stage, after_grant, SoundTo, Sound}
use Rattle.rules.proofs.Cases.{none-some}
use Rattle.rules.proofs.Rows.{rows-order-least, order_least}
use Rattle.rules.proofs.Steps.{term-position}
use Rattle.rules.proofs.Choosing.{rows_order, found_at, multiple-filled}
use Rattle.rules.proofs.Kept.{step_kept}
use Rattle.promises.specs.Moments.{Moment, a_send, moved, moved_by, moments_of, moments_along, sent_at, moments_total}
use Rattle.promises.specs.Rounds.{StartsAt, Starts, Waits, MomentsBefore, MomentsThroughout, Steady, MomentsWithin, MomentsRound, counted, one_sent, Throughout, WithinRound, Round}
use Rattle.promises.proofs.Lawful.{moved-send, moved-kept, term-rest}
use Rattle.promises.proofs.EachCall.{OtherCall, quiet, afresh, other-call}
use Rattle.promises.proofs.NextMoments.{EndedBy, going_on, round-end, ScannedBy, first-visit, term-first, last-term, ChosenBy, in-visit, by-scan}
use Rattle.promises.proofs.Made.{chosen-leads, Made, unserved, serving, other, made, moments_lead, moments-along}
use Rattle.promises.proofs.Counts.{sends-same, made-total, calls-total}
use Rattle.promises.proofs.Positions.{over_inside, settled-edition}
use Rattle.promises.proofs.EveryMoment.{at-start, throughout_map, Stable, calls_throughout, calls_steady}

-- ---- the edition stays

ended-edition : {s s' : State} {ms : List Moment} → EndedBy s s' ms → s'.edition ≡ s.edition
ended-edition (going_on e) = refl
ended-edition (round-end o) = refl

-- but for a Start, which leaves order 0
made-edition : {s : State} {c : Call} {s' : State} {ms : List Moment} → Sound s → Made s c s' ms → (s'.edition ≡ s.edition) ⊎ (s'.order ≡ 0)
unfolding fresh
made-edition S (unserved q) = inl refl
made-edition S (serving e N C E) =
    let x = N.chosen in
    inl
    (ended-edition E ∙ ap (λ (r : State). r.edition) (moved-send x.state x.slot N.head N.rest N.choice.visit N.still)
    ∙ settled-edition N.rest x.state x.slot _ ∙ N.choice.edition)
made-edition {s} {c} S (other n) = go (other-call S c n)
  where
    go : OtherCall s c (step s c) → ((step s c).edition ≡ s.edition) ⊎ ((step s c).order ≡ 0)
    go (quiet ed sc up alone) = inl ed
    go (afresh e E r q) = inr (rw q refl)

-- the order is k, and with rows it is edition 1
record Falls (k : ℕ) (s : State) : Type 0 where
  order_is : s.order ≡ k
  falls : 1 ≤ k → held s ≡ false

call-falls : {k : ℕ} (c : Call) {s : State} → Sound s → Falls k s → (step s c).order ≡ k → Falls k (step s c)
call-falls {k} c {s} S F o = record { order_is = o; falls = λ l. go l (made-edition S (made S c)) }
  where
    go : 1 ≤ k → ((step s c).edition ≡ s.edition) ⊎ ((step s c).order ≡ 0) → held (step s c) ≡ false
    go l (inl e) = ap (λ (n : ℕ). eqb n holding) e ∙ F.falls l
    go l (inr z) = absurd (omega arith)

calls-fall : {k : ℕ} (cs : List Call) {s : State} → AllInRange cs → Sound s → Falls k s → Throughout (λ r. r.order ≡ k) s cs → Throughout (Falls k) s cs
unfolding Throughout
calls-fall [] f S F o = F
calls-fall {k} (c ∷ cs) f S F o = (F, calls-fall cs f.1 (step_kept c f.0 S) (call-falls c S F (at-start (λ r. r.order ≡ k) cs o.1)) o.1)

-- ---- the order at every moment

falls_stable : (k : ℕ) → Stable (Falls k)
falls_stable k =
    record {
      by-term = λ s F. record { order_is = F.order_is; falls = F.falls };
      by_end = λ {s} T o F. absurd (true≢false (sym o.held-there ∙ F.falls (let l = order_least T o.rows in let q = F.order_is in omega arith)));
      from_end = λ {s} T o F. absurd (true≢false (sym o.held-there ∙ F.falls (rw (← F.order_is) (rows-order-least T o.rows))));
      by-visit = λ S j rest v t F. record { order_is = F.order_is; falls = F.falls };
    }

before-order : (k : ℕ) (ms : List Moment) (s : State) → MomentsBefore (Falls k) s ms → MomentsBefore (λ r. r.order ≡ k) s ms
unfolding MomentsBefore
before-order k [] s a = tt
before-order k (m ∷ ms) s a = (a.0.order_is, before-order k ms (moved s m) a.1)

-- ---- rounds

within_append : (n : ℕ) (xs ys : List Moment) (s : State) → MomentsWithin n s xs → MomentsWithin (n + moments_total sent_at s xs) (moved_by s xs) ys
    → MomentsWithin n s (xs ++ ys)
unfolding MomentsWithin moments_total moved_by
within_append n [] ys s a b = rw (add-zero n) at b
within_append n (m ∷ xs) ys s a b =
    (a.0, within_append (n + sent_at s m) xs ys (moved s m) a.1 (rw (add_assoc n (sent_at s m) (moments_total sent_at (moved s m) xs)) b))

-- where the order is the rows' own, the last position, an odd one, scans the highest column, and so finds a row
last-filled : {b : Stage} {s : State} → SoundTo b s → is_empty s.rows ≡ false → s.order ≡ rows_order s → suc (term_taken s).scan.position ≡ 2 ^ s.order
    → (term_taken s).scan.to_visit ≡ [] → ⊥
last-filled {b} {s} S e o last t =
    go (next_position s.order s.scan.position) refl last (parity (next_position s.order s.scan.position)) (term-position S e)
  where
    odd-filled : (p : ℕ) → p % 2 ≡ 1 → is_empty (found_at s p) ≡ false
    odd-filled p odd =
        let z : s.order - rows_order s ≡ 0 = omega arith in
        let one : p * 2 ^ 0 ≡ p = omega arith in
        rw (z, one) at (multiple-filled S e p odd)

    go : (p : ℕ) → next_position s.order s.scan.position ≡ p → suc p ≡ 2 ^ s.order → (p % 2 ≡ 0) ⊎ (p % 2 ≡ 1) → (1 ≤ p) × (p < 2 ^ s.order) → ⊥
    go p q z (inl even) l = omega (arith, even_next s.order p (order_least S e) l.1 even)
    go p q z (inr odd) l = true≢false (sym (ap is_empty t) ∙ rw q (odd-filled p odd))

-- so a term taken is at no start
term-inside : {b : Stage} {s : State} → SoundTo b s → is_empty s.rows ≡ false → s.order ≡ rows_order s → Starts (term_taken s) → ⊥
term-inside {b} {s} S e o B = go (held s) B.at-end
  where
    go : (h : Bool) → StartsAt h s.order (term_taken s).scan.position → ⊥
    go true z = let one = (term-position S e).0 in omega arith
    go false (inl z) = let one = (term-position S e).0 in omega arith
    go false (inr z) = last-filled S e o z B.none_remain

scanned-within : {x : Chosen} {s : State} {ms : List Moment} (n : ℕ) → Sound s → s.scan.visit ≡ none → is_empty s.rows ≡ false → s.order ≡ rows_order s
    → (0 < n → Starts s → ⊥) → ScannedBy x s ms → MomentsWithin n s ms
unfolding MomentsWithin moved
scanned-within n S v e o inside (first-visit j rest t a b c) = (inside, tt)
scanned-within n S v e o inside (term-first t z later) = (inside, scanned-within (n + 0) (term-rest S v e z) v e o (λ l. term-inside S e o) later)
scanned-within n S v e o inside (last-term t O later) = absurd (last-filled S e o O.last O.none_remain)

chosen-within : {s : State} {x : Chosen} {ms : List Moment} (n : ℕ) → Sound s → is_empty s.rows ≡ false → s.order ≡ rows_order s → (0 < n → Starts s → ⊥)
    → ChosenBy x s ms → MomentsWithin n s ms
unfolding MomentsWithin
chosen-within n S e o inside (in-visit z same) = tt
chosen-within n S e o inside (by-scan v way) = scanned-within n S v e o inside way

ended-within : {s s' : State} {ms : List Moment} (n : ℕ) → SoundTo after_grant s → EndedBy s s' ms → MomentsWithin n s ms
unfolding MomentsWithin
ended-within n S (going_on e) = tt
ended-within n S (round-end o) = (λ l B. over_inside S o B, tt)

-- a call from a state with rows in which the order is theirs
made-within : {s : State} {c : Call} {s' : State} {ms : List Moment} (n : ℕ) → Sound s → (is_empty s.rows ≡ false → s.order ≡ rows_order s)
    → (0 < n → Starts s → ⊥) → Made s c s' ms → MomentsWithin n s ms
unfolding MomentsWithin
made-within n S o inside (unserved q) = tt
made-within {s} n S o inside (serving {choosing = choosing} {ends = ends} e N C E) =
    let x = N.chosen in
    let there : moved_by s choosing ≡ x.state = (chosen-leads S e C).there in
    let T : SoundTo after_grant (moved x.state a_send) = moved-kept a_send (x.slot, N.head, N.rest, N.choice.visit, N.still) N.choice.sound in
    within_append n choosing (a_send ∷ ends) s (chosen-within n S e (o e) inside C)
    (rw there (λ l B. none-some (sym B.no_visit ∙ N.choice.visit), ended-within _ T E))
made-within n S o inside (other x) = (inside, tt)

-- calls throughout which P holds, where P says so
module _ (P : State → Type 0) (own : (s : State) → Sound s → P s → is_empty s.rows ≡ false → s.order ≡ rows_order s) where
  pub along-within : (n : ℕ) (cs : List Call) (s : State) → AllInRange cs → Sound s → Throughout P s cs → WithinRound n s cs
      → MomentsWithin n s (moments_along s cs)
  unfolding Throughout WithinRound moments_along MomentsWithin
  along-within n [] s f S p inside = tt
  along-within n (c ∷ cs) s f S p inside =
      within_append n (moments_of s c) (moments_along (step s c) cs) s (made-within n S (own s S p.0) inside.0 (made S c))
      (rw ((moments_lead c f.0 S).there, made-total sends-same S (made S c))
      (along-within (n + counted one_sent s c) cs (step s c) f.1 (step_kept c f.0 S) p.1 inside.1))

  pub along-round : (s : State) (cs : List Call) → Sound s → AllInRange cs → Throughout P s cs → Round s cs → MomentsRound s (moments_along s cs)
  along-round s cs S f p R =
      record {
        starts = R.starts;
        within = along-within 0 cs s f S p R.within;
        sent = rw (calls-total sends-same cs s f S) R.sent;
        ends = subst Starts (sym (moments-along cs f S).there) R.ends;
      }

-- in edition 1 the order is always the rows'
falls-own : (k : ℕ) (s : State) → Sound s → Falls k s → is_empty s.rows ≡ false → s.order ≡ rows_order s
falls-own k s S F e =
    let g : held s ≡ false = F.falls (let l = order_least S e in let q = F.order_is in omega arith) in
    S.order_is (rw g refl)

-- ---- calls from a state of edition 1, with the order equal throughout

module _ (k : ℕ) (s : State) (cs : List Call) (S : Sound s) (f : AllInRange cs) (g : held s ≡ false) (o : Throughout (λ r. r.order ≡ k) s cs) where
  fall : Throughout (Falls k) s cs
  fall = calls-fall cs f S (record { order_is = at-start (λ r. r.order ≡ k) cs o; falls = λ l. g }) o

  pub calls-order : MomentsThroughout (λ r. r.order ≡ k) s (moments_along s cs)
  calls-order =
      let a = calls_throughout (falls_stable k) cs f S fall in
      (before-order k (moments_along s cs) s a.0, a.1.order_is)

  pub calls-within : WithinRound 0 s cs → MomentsWithin 0 s (moments_along s cs)
  calls-within inside = along-within (Falls k) (falls-own k) 0 cs s f S fall inside

  pub calls-round : Round s cs → MomentsRound s (moments_along s cs)
  calls-round R = along-round (Falls k) (falls-own k) s cs S f fall R

-- a channel that waits with the order equal after every call waits through the round
pub waits-order : (k i : ℕ) (s : State) (cs : List Call) → Throughout (Waits k i) s cs → Throughout (λ r. r.order ≡ k) s cs
waits-order k i s cs w = throughout_map (λ r x. x.order_is) cs s w

pub waits_steady : (k i : ℕ) (s : State) (cs : List Call) → Sound s → AllInRange cs → held s ≡ false → Throughout (Waits k i) s cs → Steady k i s (moments_along s cs)
waits_steady k i s cs S f g w =
    let o = calls-order k s cs S f g (waits-order k i s cs w) in
    let there : moved_by s (moments_along s cs) ≡ run s cs = (moments-along cs f S).there in
    calls_steady k i cs f S (throughout_map (λ r x. x.waits) cs s w) o.0 (λ h. subst (λ (r : State). r.order ≡ k) there o.1)
