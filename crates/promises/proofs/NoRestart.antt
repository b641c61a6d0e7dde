-- Moments of which none is a Start that is taken: those of calls without one, and the parts of such a list. They leave the edition, so in edition 2 the order is
-- held before each of them. And where a channel waits after every call, no Start was taken.
use Prim.Native.Nat.{ℕ, zero, suc, ◌≤◌}
use mathlib.Core.Path.{◌≡◌, refl, sym, ap, ◌∙◌, subst}
use mathlib.Core.Bool.{Bool, true, false, not, cond, ◌||◌, true≢false}
use mathlib.Core.List.{List, [], ◌∷◌, ◌++◌}
use mathlib.Core.Option.{Option, none, some}
use lib.Dec.{eqb}
use Rattle.lists.specs.Tests.{is_empty}
use Rattle.lists.proofs.TestLaws.{true-and}
use Rattle.spread.specs.Limits.{columns, outside}
use Rattle.spread.proofs.Limits.{between}
use Rattle.rules.specs.Numbers.{falling, holding}
use Rattle.rules.specs.State.{State, held, round_over}
use Rattle.rules.specs.Next.{term_taken, ending_round, terms_most}
use Rattle.rules.specs.Calls.{Call, to_open, to_put, to_close, to_next, to_start, to_ask, to_fullest, step}
use Rattle.rules.specs.Facts.{after_grant, SoundTo}
use Rattle.rules.proofs.Rows.{order-most}
use Rattle.rules.proofs.ParkedKept.{start_any}
use Rattle.promises.specs.Histories.{restarts, NoStart}
use Rattle.promises.specs.Moments.{Moment, a_term, an_end, a_visit, a_send, a_call, moved, end_of, scan_moments, choose_moments, next_moments, is_next, moments_of, moments_along}
use Rattle.promises.specs.Rounds.{Waiting, MomentsBefore, OrderUpTo, Throughout}
use Rattle.promises.specs.NobodyWaits.{is_restart, NoRestart}
use Rattle.promises.proofs.Waiting.{fresh-idle}
use Rattle.promises.proofs.OneSlot.{no_start}
use Rattle.promises.proofs.EachCall.{OtherCall, quiet, afresh, other-call}
use Rattle.promises.proofs.Lawful.{Can, Lawful, moved-visit, moved-send, moved-kept}
use Rattle.promises.proofs.Positions.{settled-edition}
use Rattle.promises.proofs.EveryMoment.{at-start}

-- ---- parts

none_append : (xs ys : List Moment) → NoRestart xs → NoRestart ys → NoRestart (xs ++ ys)
unfolding NoRestart
none_append [] ys a b = b
none_append (m ∷ xs) ys a b = (a.0, none_append xs ys a.1 b)

pub none_first : (xs ys : List Moment) → NoRestart (xs ++ ys) → NoRestart xs
unfolding NoRestart
none_first [] ys a = tt
none_first (m ∷ xs) ys a = (a.0, none_first xs ys a.1)

pub none_rest : (xs ys : List Moment) → NoRestart (xs ++ ys) → NoRestart ys
unfolding NoRestart
none_rest [] ys a = a
none_rest (m ∷ xs) ys a = none_rest xs ys a.1

-- ---- the moments of calls

end_none : (s : State) → NoRestart (end_of s)
unfolding NoRestart
end_none s = go (round_over s)
  where
    go : (b : Bool) → NoRestart (cond b (an_end ∷ []) [])
    go true = (refl, tt)
    go false = tt

scan-none : (f : ℕ) (s : State) → NoRestart (scan_moments f s)
unfolding NoRestart scan_moments
scan-none zero s = (refl, tt)
scan-none (suc f) s = go (is_empty s.scan.to_visit) (scan-none f (ending_round (term_taken s)))
  where
    go : (b : Bool) → NoRestart (scan_moments f (ending_round (term_taken s)))
        → NoRestart (cond b (a_term ∷ end_of (term_taken s) ++ scan_moments f (ending_round (term_taken s))) (a_visit ∷ []))
    go true later = (refl, none_append (end_of (term_taken s)) (scan_moments f (ending_round (term_taken s))) (end_none (term_taken s)) later)
    go false later = (refl, tt)

choose_none : (o : Option ℕ) (s : State) → NoRestart (choose_moments o s)
unfolding NoRestart
choose_none none s = scan-none (terms_most s) s
choose_none (some v) s = tt

call_none : (c : Call) (s : State) → restarts c ≡ false → NoRestart (moments_of s c)
unfolding NoRestart moments_of
call_none c s e = go (is_next c) (s.parked || is_empty s.rows)
  where
    go : (b d : Bool) → NoRestart (cond b (cond d [] (next_moments s)) (a_call c ∷ []))
    go true true = tt
    go true false = none_append (choose_moments s.scan.visit s) _ (choose_none s.scan.visit s) (refl, end_none _)
    go false d = (e, tt)

pub calls-none : (cs : List Call) (s : State) → NoStart cs → NoRestart (moments_along s cs)
unfolding NoRestart moments_along
calls-none [] s n = tt
calls-none (c ∷ cs) s n =
    let (q, more) = no_start c cs n in
    none_append (moments_of s c) (moments_along (step s c) cs) (call_none c s q) (calls-none cs (step s c) more)

-- ---- the edition

edition-moved : (m : Moment) (s : State) → Can s m → is_restart m ≡ false → (moved s m).edition ≡ s.edition
unfolding moved
edition-moved a_term s can x = refl
edition-moved an_end s can x = refl
edition-moved a_visit s (j, rest, v, t) x = ap (λ (r : State). r.edition) (moved-visit s j rest t)
edition-moved a_send s (j, h, rest, v, w) x = ap (λ (r : State). r.edition) (moved-send s j h rest v w) ∙ settled-edition rest s j _
edition-moved (a_call c) s (n, f, T) x = go (other-call T c n)
  where
    go : OtherCall s c (step s c) → (step s c).edition ≡ s.edition
    go (quiet ed sc up alone) = ed
    go (afresh e E r q) = absurd (true≢false (sym r ∙ x))

pub held_moved : (m : Moment) (s : State) → Can s m → is_restart m ≡ false → held s ≡ true → held (moved s m) ≡ true
held_moved m s can x g = ap (λ (e : ℕ). eqb e holding) (edition-moved m s can x) ∙ g

-- in edition 2 the order is at most k before every moment, if it is so anyhow; and it is at most the number of columns
pub held-up_to : (k : ℕ) (ms : List Moment) (s : State) → Lawful s ms → NoRestart ms → held s ≡ true → MomentsBefore (λ r. r.order ≤ k) s ms
    → MomentsBefore (OrderUpTo k) s ms
unfolding NoRestart MomentsBefore
held-up_to k [] s law on g o = tt
held-up_to k (m ∷ ms) s law on g o = (
  record { at_most = o.0; unheld = λ q. absurd (true≢false (sym g ∙ q)) },
  held-up_to k ms (moved s m) law.1 on.1 (held_moved m s law.0 on.0 g) o.1,
)

pub columns-most : (ms : List Moment) (s : State) → Lawful s ms → SoundTo after_grant s → MomentsBefore (λ r. r.order ≤ columns) s ms
unfolding MomentsBefore
columns-most [] s law S = tt
columns-most (m ∷ ms) s law S = (order-most S, columns-most ms (moved s m) law.1 (moved-kept m law.0 S))

-- ---- "after every call": a Start that is taken leaves none waiting

call-waits : (i : ℕ) (c : Call) (s : State) → Waiting i (step s c) → restarts c ≡ false
call-waits i (to_open w) s h = refl
call-waits i (to_put j t n r) s h = refl
call-waits i (to_close j t) s h = refl
call-waits i to_next s h = refl
call-waits i (to_start e) s h = go (outside falling holding e) refl
  where
    go : (b : Bool) → outside falling holding e ≡ b → not b ≡ false
    go true q = refl
    go false q = absurd (fresh-idle e (between falling holding e q) i (subst (Waiting i) (start_any e s q) h))
call-waits i (to_ask j t) s h = refl
call-waits i to_fullest s h = refl

pub waits_no_start : (i : ℕ) (cs : List Call) (s : State) → Throughout (Waiting i) s cs → NoStart cs
unfolding Throughout
waits_no_start i [] s w = refl
waits_no_start i (c ∷ cs) s w =
    true-and (ap not (call-waits i c s (at-start (Waiting i) cs w.1))) (waits_no_start i cs (step s c) w.1)
