-- A slot of edition 2 with a record waiting and outside its visit: a moment that starts no visit of it, and is no Start that is taken, leaves it so, with its
-- weight. So along moments it is visited, or waits on to the last; and with it goes whatever else such moments keep.
use Prim.Native.Nat.{ℕ, zero, suc, ◌+◌, ◌≤◌}
use mathlib.Core.Path.{◌≡◌, refl, sym, ap, ◌∙◌, subst}
use mathlib.Core.Bool.{Bool, true, false, cond, true≢false}
use mathlib.Core.List.{List, [], ◌∷◌}
use mathlib.Core.Logic.{◌⊎◌, inl, inr}
use mathlib.Core.Option.{none, some}
use native.Mathlib.Nat.{add-zero, add_assoc}
use native.Mathlib.Omega.{arith}
use lib.Dec.{leb}
use borrow.Author.Tests.{eq-eqb}
use Rattle.rules.specs.State.{Record, cost, Channel, State, at, held}
use Rattle.rules.specs.Next.{term_taken, round_ended, granting, visit_started, paying, settled}
use Rattle.rules.specs.Calls.{step}
use Rattle.rules.specs.Facts.{after_grant, SoundTo}
use Rattle.rules.proofs.Cases.{none-some, some_inj}
use Rattle.rules.proofs.Channels.{at_other}
use Rattle.rules.proofs.NextFrame.{lasting, settled-channels}
use Rattle.promises.specs.Moments.{Moment, a_term, an_end, a_visit, a_send, a_call, moved, moved_by, sent_at, is_first, visits_at, moments_total}
use Rattle.promises.specs.Rounds.{Waiting}
use Rattle.promises.specs.NobodyWaits.{OutOfVisit, is_restart, NoRestart}
use Rattle.promises.proofs.EachCall.{OtherCall, quiet, afresh, other-call}
use Rattle.promises.proofs.Lawful.{Can, Lawful, moved-visit, moved-send, moved-kept}
use Rattle.promises.proofs.NoRestart.{held_moved}

pub record Waited (i : ℕ) (s : State) : Type 0 where
  pub held-there : held s ≡ true
  pub waits : Waiting i s
  pub out : OutOfVisit i s

-- what a moment leaves of it
pub record Keeps (i : ℕ) (s s' : State) : Type 0 where
  pub weight : (at s'.channels i).weight ≡ (at s.channels i).weight
  pub waits : Waiting i s'
  pub out : OutOfVisit i s'

-- another slot's visit is started
pub not_first : (i : ℕ) (s : State) (j : ℕ) (rest : List ℕ) → s.scan.to_visit ≡ j ∷ rest → visits_at i s a_visit ≡ 0 → i ≡ j → ⊥
not_first i s j rest t z q =
    let y : is_first i (j ∷ rest) ≡ 0 = rw t at z in
    let one : is_first i (j ∷ rest) ≡ 1 = rw (eq-eqb i j q) refl in
    omega arith

-- the visit that goes on is the one that was open
settled-visit : (rest : List Record) (s : State) (i j : ℕ) (c : Channel) → (settled rest s j c).scan.visit ≡ some i → i ≡ j
settled-visit [] s i j c e = absurd (none-some e)
settled-visit (h ∷ rest) s i j c e = go (leb (cost h) c.deficit) e
  where
    go : (b : Bool) → cond b (some j) none ≡ some i → i ≡ j
    go true q = sym (some_inj q)
    go false q = absurd (none-some q)

module _ (i : ℕ) {s : State} (W : Waited i s) where
  same-channel : (s' : State) → at s'.channels i ≡ at s.channels i → OutOfVisit i s' → Keeps i s s'
  same-channel s' q o = record { weight = rw q refl; waits = rw q W.waits; out = o }

  pub moment_keeps : (m : Moment) → Can s m → is_restart m ≡ false → visits_at i s m ≡ 0 → Keeps i s (moved s m)
  unfolding moved
  moment_keeps a_term can x z = same-channel (term_taken s) refl W.out
  moment_keeps an_end can x z = same-channel (round_ended s) refl W.out
  moment_keeps a_visit (j, rest, v, t) x z =
      let n = not_first i s j rest t z in
      rw (moved-visit s j rest t)
      (same-channel (visit_started s j rest) (at_other s.channels j i (granting (at s.channels j)) n) (λ q. n (sym (some_inj q))))
  moment_keeps a_send (j, h, rest, v, w) x z =
      let c = paying h rest (at s.channels j) in
      let n : i ≡ j → ⊥ = λ q. W.out (v ∙ ap some (sym q)) in
      rw (moved-send s j h rest v w)
      (same-channel (settled rest s j c) (rw (settled-channels rest s j c) (at_other s.channels j i (lasting rest c) n))
      (λ q. n (settled-visit rest s i j c q)))
  moment_keeps (a_call c) (n, f, T) x z = go (other-call T c n)
    where
      go : OtherCall s c (step s c) → Keeps i s (step s c)
      go (quiet ed sc up alone) = let a = alone i W.waits in record { weight = a.weight; waits = a.waits; out = λ q. W.out (rw sc at q) }
      go (afresh e E r q) = absurd (true≢false (sym r ∙ x))

-- Q is what such moments keep besides, n records having been sent
module _ (i : ℕ) (Q : ℕ → State → Type 0)
    (kept : (m : Moment) (n : ℕ) (s : State) → SoundTo after_grant s → Can s m → is_restart m ≡ false → visits_at i s m ≡ 0 → Waited i s → Q n s
    → Q (n + sent_at s m) (moved s m)) where
  pub visited_or_waits : (n : ℕ) (s : State) (ms : List Moment) → Lawful s ms → SoundTo after_grant s → NoRestart ms → Waited i s → Q n s
      → (1 ≤ moments_total (visits_at i) s ms) ⊎ (Waited i (moved_by s ms) × Q (n + moments_total sent_at s ms) (moved_by s ms))
  unfolding NoRestart moments_total moved_by
  visited_or_waits n s [] law S on W q = inr (W, rw (add-zero n) q)
  visited_or_waits n s (m ∷ ms) law S on W q =
      go (visits_at i s m) refl (visited_or_waits (n + sent_at s m) (moved s m) ms law.1 (moved-kept m law.0 S) on.1)
    where
      later : (1 ≤ moments_total (visits_at i) (moved s m) ms)
          ⊎ (Waited i (moved_by (moved s m) ms) × Q (n + sent_at s m + moments_total sent_at (moved s m) ms) (moved_by (moved s m) ms))
          → (1 ≤ visits_at i s m + moments_total (visits_at i) (moved s m) ms)
          ⊎ (Waited i (moved_by (moved s m) ms) × Q (n + (sent_at s m + moments_total sent_at (moved s m) ms)) (moved_by (moved s m) ms))
      later (inl l) = inl (omega arith)
      later (inr (Y, y)) =
          inr (Y, subst (λ (x : ℕ). Q x (moved_by (moved s m) ms)) (add_assoc n (sent_at s m) (moments_total sent_at (moved s m) ms)) y)

      go : (v : ℕ) → visits_at i s m ≡ v
          → (Waited i (moved s m) → Q (n + sent_at s m) (moved s m)
          → (1 ≤ moments_total (visits_at i) (moved s m) ms)
          ⊎ (Waited i (moved_by (moved s m) ms) × Q (n + sent_at s m + moments_total sent_at (moved s m) ms) (moved_by (moved s m) ms)))
          → (1 ≤ visits_at i s m + moments_total (visits_at i) (moved s m) ms)
          ⊎ (Waited i (moved_by (moved s m) ms) × Q (n + (sent_at s m + moments_total sent_at (moved s m) ms)) (moved_by (moved s m) ms))
      go (suc v) z more = inl (omega arith)
      go zero z more =
          let K : Keeps i s (moved s m) = moment_keeps i W m law.0 on.0 z in
          later
          (more (record { held-there = held_moved m s law.0 on.0 W.held-there; waits = K.waits; out = K.out })
          (kept m n s S law.0 on.0 z W q))
