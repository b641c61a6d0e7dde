-- While the rows stay the same, each of them waits and keeps its weight, and the order stays until a round's end: it rises where a slot joins and falls where
-- a row leaves, so it does neither. This is so in both editions.
use Prim.Native.Nat.{ℕ, ◌≤◌}
use mathlib.Core.Path.{◌≡◌, refl, sym, ap, ◌∙◌, subst}
use mathlib.Core.Bool.{Bool, true, false, true≢false}
use mathlib.Core.List.{List, [], ◌∷◌, ◌++◌}
use mathlib.Core.Option.{some}
use native.Mathlib.Omega.{arith}
use Rattle.lists.specs.Slots.{occurs}
use Rattle.lists.specs.Tests.{is_empty}
use Rattle.lists.proofs.SlotsLaws.{occurs-same, occurs_append, occurs-without-same}
use Rattle.rules.specs.State.{Record, Channel, State, fresh, at, weights, order_of}
use Rattle.rules.specs.Next.{paying, settled}
use Rattle.rules.specs.Calls.{Call, step, run, AllInRange}
use Rattle.rules.specs.Facts.{Stage, after_grant, SoundTo, Sound}
use Rattle.rules.proofs.Columns.{Agree, order_of_cong}
use Rattle.rules.proofs.Rows.{row-filled, row-once, visit-row}
use Rattle.rules.proofs.Choosing.{rows_order, sound-wider}
use Rattle.rules.proofs.Kept.{step_kept}
use Rattle.promises.specs.Moments.{Moment, a_term, an_end, a_visit, a_send, a_call, moved, moved_by, moments_along}
use Rattle.promises.specs.Rounds.{Waiting, MomentsBefore, MomentsThroughout, Throughout}
use Rattle.promises.specs.Sheets.{RowsAre}
use Rattle.promises.proofs.EachCall.{OrderLeft, staying, joined, no_rows, other-order}
use Rattle.promises.proofs.Lawful.{Can, Lawful, moved-visit, moved-send, moved-kept}
use Rattle.promises.proofs.Made.{Leads, moments-along}
use Rattle.promises.proofs.Balanced.{moment_balanced}
use Rattle.promises.proofs.Running.{is_end}
use Rattle.promises.proofs.Rounds.{is-end}
use Rattle.promises.proofs.EveryMoment.{at-start, Stable, calls_throughout}

-- what holds before every moment and after the last holds at first
pub first-state : (P : State → Type 0) (ms : List Moment) (s : State) → MomentsThroughout P s ms → P s
unfolding MomentsBefore moved_by
first-state P [] s p = p.1
first-state P (m ∷ ms) s p = p.0.0

-- each row waits
pub row-waits : {b : Stage} {s : State} {rs : List ℕ} → SoundTo b s → RowsAre rs s → (i : ℕ) → 1 ≤ occurs i rs → Waiting i s
row-waits {b} {s} {rs} S r i m = row-filled (at s.channels i).waiting (sym (S.slot i).row ∙ row-once S i (rw r m))

-- and keeps its weight
pub weights_stay : {s : State} {rs : List ℕ} {f : ℕ → ℕ} (m : Moment) → Can s m → SoundTo after_grant s → RowsAre rs s → RowsAre rs (moved s m)
    → Agree (weights s.channels) f rs → Agree (weights (moved s m).channels) f rs
weights_stay m can S was now g i h = (moment_balanced m can S i (row-waits S was i h) (row-waits (moved-kept m can S) now i h)).weight ∙ g i h

-- ---- the order

-- where the row in visit stays, it has a record left
settled-stays : {s : State} → SoundTo after_grant s → (j : ℕ) (rest : List Record) (c : Channel) → s.scan.visit ≡ some j
    → (settled rest s j c).rows ≡ s.rows → (settled rest s j c).order ≡ s.order
settled-stays {s} S j [] c v q =
    let z : occurs j s.rows ≡ 0 = ap (occurs j) (sym q) ∙ occurs-without-same j s.rows in
    absurd (let one = visit-row S j v in omega arith)
settled-stays S j (h ∷ rest) c v q = refl

call_stays : {s s' : State} → is_empty s.rows ≡ false → s'.rows ≡ s.rows → OrderLeft s s' → s'.order ≡ s.order
unfolding fresh
call_stays e q (staying r o) = o
call_stays {s} e q (joined j r o) =
    let more : occurs j (s.rows ++ j ∷ []) ≡ occurs j s.rows = ap (occurs j) (sym r ∙ q) in
    absurd (omega (arith, occurs_append j s.rows (j ∷ []), occurs-same j []))
call_stays {s} e q (no_rows x g) = absurd (true≢false (ap (λ (r : State). is_empty r.rows) (sym g) ∙ ap is_empty q ∙ e))

-- any moment but a round's end
pub order-stays : {s : State} (m : Moment) → is_end m ≡ false → Can s m → SoundTo after_grant s → is_empty s.rows ≡ false → (moved s m).rows ≡ s.rows
    → (moved s m).order ≡ s.order
unfolding moved
order-stays a_term x can S e q = refl
order-stays an_end x can S e q = absurd (true≢false x)
order-stays {s} a_visit x (j, rest, v, t) S e q = rw (moved-visit s j rest t) refl
order-stays {s} a_send x (j, h, rest, v, w) S e q =
    let g = moved-send s j h rest v w in
    rw g (settled-stays S j rest (paying h rest (at s.channels j)) v (rw g at q))
order-stays (a_call c) x (n, f, T) S e q = call_stays e q (other-order T c n)

-- ---- the order that is the rows' own stays so, at a round's end too, where it is worked out afresh

own-moved : {s : State} {rs : List ℕ} (m : Moment) → Can s m → SoundTo after_grant s → is_empty rs ≡ false → RowsAre rs s → RowsAre rs (moved s m)
    → s.order ≡ rows_order s → (moved s m).order ≡ rows_order (moved s m)
unfolding moved
own-moved {s} {rs} m can S e was now o = go (is_end m) refl
  where
    go : (b : Bool) → is_end m ≡ b → (moved s m).order ≡ rows_order (moved s m)
    go true q = rw (is-end m q) refl
    go false q =
        let g : Agree (weights (moved s m).channels) (weights s.channels) rs = weights_stay m can S was now (λ i h. refl) in
        order-stays m q can S (ap is_empty was ∙ e) (now ∙ sym was) ∙ o ∙ ap (order_of (weights s.channels)) was
        ∙ sym (ap (order_of (weights (moved s m).channels)) now ∙ order_of_cong _ _ rs g)

own-run : (ms : List Moment) {s : State} {rs : List ℕ} → Lawful s ms → SoundTo after_grant s → is_empty rs ≡ false → MomentsThroughout (RowsAre rs) s ms
    → s.order ≡ rows_order s → (moved_by s ms).order ≡ rows_order (moved_by s ms)
unfolding MomentsBefore moved_by
own-run [] law S e st o = o
own-run (m ∷ ms) {s} {rs} law S e st o =
    own-run ms law.1 (moved-kept m law.0 S) e (st.0.1, st.1)
    (own-moved m law.0 S e st.0.0 (first-state (RowsAre rs) ms (moved s m) (st.0.1, st.1)) o)

-- ---- after every call

-- the rows are left by every moment but a send and another call
rows_stable : (rs : List ℕ) → Stable (RowsAre rs)
rows_stable rs = record { by-term = λ s r. r; by_end = λ T o r. r; from_end = λ T o r. r; by-visit = λ S j rest v t r. r }

pub calls-rows : (rs : List ℕ) (cs : List Call) {s : State} → AllInRange cs → Sound s → Throughout (RowsAre rs) s cs
    → MomentsThroughout (RowsAre rs) s (moments_along s cs)
calls-rows rs cs f S r = calls_throughout (rows_stable rs) cs f S r

-- the rows stay and the order is theirs
abbrev pub RowsOwn : List ℕ → State → Type 0
RowsOwn rs s = RowsAre rs s × (s.order ≡ rows_order s)

pub calls-own : (rs : List ℕ) (cs : List Call) {s : State} → AllInRange cs → Sound s → is_empty rs ≡ false → Throughout (RowsAre rs) s cs
    → s.order ≡ rows_order s → Throughout (RowsOwn rs) s cs
unfolding Throughout run
calls-own rs [] f S e r o = (r, o)
calls-own rs (c ∷ cs) {s} f S e r o =
    let ms = moments_along s (c ∷ []) in
    let L : Leads s ms (step s c) = moments-along (c ∷ []) (f.0, tt) S in
    let st = calls-rows rs (c ∷ []) (f.0, tt) S (r.0, at-start (RowsAre rs) cs r.1) in
    let own : (moved_by s ms).order ≡ rows_order (moved_by s ms) = own-run ms L.lawful (sound-wider S) e st o in
    ((r.0, o), calls-own rs cs f.1 (step_kept c f.0 S) e r.1 (subst (λ (x : State). x.order ≡ rows_order x) L.there own))
