-- What one moment does to a slot that waits before and after it: its weight stays, and its deficit is what it had and is granted, less what it sends. (Only
-- where the last record goes is a deficit reset.)
use Prim.Native.Nat.{ℕ, ◌+◌, ◌*◌, ◌≤◌, ◌<◌}
use mathlib.Core.Path.{◌≡◌, refl, sym, ◌∙◌, subst}
use mathlib.Core.Bool.{false}
use mathlib.Core.List.{List, ◌∷◌}
use mathlib.Core.Option.{Option, none, some}
use native.Mathlib.Omega.{arith}
use lib.ListN.{length, set}
use borrow.Author.Tests.{eq-eqb, ne_eqb}
use Rattle.lists.proofs.SlotsLaws.{if_eq}
use Rattle.lists.specs.Tests.{is_empty}
use Rattle.rules.specs.Numbers.{granted}
use Rattle.rules.specs.State.{Record, cost, State, at}
use Rattle.rules.specs.Next.{granting, visit_started, paying, settled}
use Rattle.rules.specs.Calls.{Call, step}
use Rattle.rules.specs.Facts.{after_grant, SoundTo}
use Rattle.rules.proofs.Channels.{at_same, at_other}
use Rattle.rules.proofs.Rows.{visit-lt}
use Rattle.rules.proofs.Steps.{start-kept}
use Rattle.rules.proofs.NextFrame.{lasting, lasting-same, lasting-waiting, settled-channels}
use Rattle.promises.specs.Moments.{Moment, a_term, an_end, a_visit, a_send, a_call, moved, is_first, visits_at, visit_cost, cost_at}
use Rattle.promises.specs.Rounds.{Waiting}
use Rattle.promises.proofs.Waiting.{fresh-idle}
use Rattle.promises.proofs.EachCall.{OtherCall, quiet, afresh, other-call}
use Rattle.promises.proofs.Lawful.{Can, moved-visit, moved-send}

-- from s to s' slot i is granted so many times and sends what costs so much
pub record Balanced (i : ℕ) (s s' : State) (grants sent : ℕ) : Type 0 where
  pub weight : (at s'.channels i).weight ≡ (at s.channels i).weight
  pub deficit : (at s'.channels i).deficit + sent ≡ (at s.channels i).deficit + granted * grants

-- a visit started: one grant, for the first of the list
visit_balanced : {s : State} → SoundTo after_grant s → (i j : ℕ) (rest : List ℕ) → s.scan.visit ≡ none → s.scan.to_visit ≡ j ∷ rest
    → Balanced i s (visit_started s j rest) (is_first i (j ∷ rest)) 0
visit_balanced {s} S i j rest v t =
    let c = granting (at s.channels j) in
    let l : j < length s.channels = rw S.size (visit-lt (start-kept S j rest v t) j refl) in
    if_eq i j
    (λ q.
    let here : at (set s.channels j c) i ≡ c = rw q (at_same s.channels j c l) in
    record { weight = rw (here, q) refl; deficit = rw (here, q, eq-eqb j j refl) (omega arith) })
    (λ n.
    let same : at (set s.channels j c) i ≡ at s.channels i = at_other s.channels j i c n in
    record { weight = rw same refl; deficit = rw (same, ne_eqb i j n) (omega arith) })

-- a record sent: the slot in visit waits on, so its channel has paid; another slot's is the same
send_balanced : {s : State} → SoundTo after_grant s → (i j : ℕ) (h : Record) (rest : List Record) → s.scan.visit ≡ some j
    → (at s.channels j).waiting ≡ h ∷ rest → Waiting i (settled rest s j (paying h rest (at s.channels j)))
    → Balanced i s (settled rest s j (paying h rest (at s.channels j))) 0 (visit_cost i (some j) s)
send_balanced {s} S i j h rest v w on =
    let c = paying h rest (at s.channels j) in
    let l : j < length s.channels = rw S.size (visit-lt S j v) in
    let cs : (settled rest s j c).channels ≡ set s.channels j (lasting rest c) = settled-channels rest s j c in
    if_eq i j
    (λ q.
    let here : at (settled rest s j c).channels i ≡ lasting rest c = rw (q, cs) (at_same s.channels j (lasting rest c) l) in
    let more : is_empty rest ≡ false = rw (here, lasting-waiting h rest (at s.channels j)) at on in
    let same : at (settled rest s j c).channels i ≡ c = here ∙ lasting-same rest c more in
    let within : cost h ≤ (at s.channels j).deficit = rw w at ((S.slot j).head v) in
    record { weight = rw (same, q) refl; deficit = rw (same, q, eq-eqb j j refl, w) (omega arith) })
    (λ n.
    let same : at (settled rest s j c).channels i ≡ at s.channels i = rw cs (at_other s.channels j i (lasting rest c) n) in
    record { weight = rw same refl; deficit = rw (same, ne_eqb i j n) (omega arith) })

-- another call
call_balanced : {s : State} (i : ℕ) (c : Call) → Waiting i s → Waiting i (step s c) → OtherCall s c (step s c) → Balanced i s (step s c) 0 0
call_balanced i c h g (quiet edition scan risen alone) = let a = alone i h in record { weight = a.weight; deficit = omega (arith, a.deficit) }
call_balanced i c h g (afresh e E r q) = absurd (fresh-idle e E i (rw q at g))

pub moment_balanced : (m : Moment) {s : State} → Can s m → SoundTo after_grant s → (i : ℕ) → Waiting i s → Waiting i (moved s m)
    → Balanced i s (moved s m) (visits_at i s m) (cost_at i s m)
unfolding moved
moment_balanced a_term can S i h g = record { weight = refl; deficit = omega arith }
moment_balanced an_end can S i h g = record { weight = refl; deficit = omega arith }
moment_balanced a_visit {s} (j, rest, v, t) S i h g =
    rw (moved-visit s j rest t)
    (subst (λ (l : List ℕ). Balanced i s (visit_started s j rest) (is_first i l) 0) (sym t) (visit_balanced S i j rest v t))
moment_balanced a_send {s} (j, x, rest, v, w) S i h g =
    let e = moved-send s j x rest v w in
    let c = paying x rest (at s.channels j) in
    rw e
    (subst (λ (o : Option ℕ). Balanced i s (settled rest s j c) 0 (visit_cost i o s)) (sym v) (send_balanced S i j x rest v w (rw e at g)))
moment_balanced (a_call c) {s} (n, f, T) S i h g = call_balanced i c h g (other-call T c n)
