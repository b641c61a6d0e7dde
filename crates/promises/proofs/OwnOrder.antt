-- The order is the rows' own: in every sound state of edition 1, and in edition 2 at every start that a history reaches. There P is 0 only where the order was
-- just worked out afresh or where there was no row, and a slot that joins then lets it rise to the rows'.
use Prim.Native.Nat.{ℕ, ◌%◌, ◌^◌, ◌≤◌}
use mathlib.Core.Path.{◌≡◌, refl, sym, ap, ◌∙◌, subst}
use mathlib.Core.Bool.{Bool, true, false, true≢false}
use mathlib.Core.List.Sublistᴰ
use mathlib.Core.List.{List, [], ◌∷◌}
use mathlib.Core.Option.{none, some}
use native.Mathlib.Nat.{mod-eq_of_lt}
use native.Mathlib.Omega.{arith}
use Rattle.lists.specs.Slots.{occurs, Part}
use Rattle.lists.specs.Tests.{is_empty}
use Rattle.lists.proofs.TestLaws.{empty-nil}
use Rattle.lists.proofs.SlotsLaws.{occurs-same, occurs-part}
use Rattle.rules.specs.State.{Record, Channel, State, fresh, at, weights, order_of, held}
use Rattle.rules.specs.Next.{paying, settled}
use Rattle.rules.specs.Calls.{Call, step, run, AllInRange}
use Rattle.rules.specs.Facts.{Edition, Stage, after_grant, SoundTo, Sound}
use Rattle.rules.proofs.Cases.{none-some}
use Rattle.rules.proofs.Columns.{Agree, order_of_cong, order_of_append, column-part}
use Rattle.rules.proofs.Steps.{term-position}
use Rattle.rules.proofs.Choosing.{rows_order, sound-wider}
use Rattle.rules.proofs.Kept.{fresh-sound}
use Rattle.promises.specs.Moments.{Moment, a_term, an_end, a_visit, a_send, a_call, moved, moved_by, moments_along}
use Rattle.promises.specs.Rounds.{StartsAt, Starts}
use Rattle.promises.proofs.EachCall.{OtherCall, quiet, afresh, other-call, OrderLeft, staying, joined, no_rows, other-order}
use Rattle.promises.proofs.Lawful.{Can, Lawful, moved-visit, moved-send, moved-kept}
use Rattle.promises.proofs.Made.{moments-along}
use Rattle.promises.proofs.RowsStay.{row-waits}

-- in edition 1 always
pub own-order : {s : State} → Sound s → (held s ≡ true → s.order ≡ rows_order s) → s.order ≡ rows_order s
own-order {s} S o = go (held s) refl
  where
    go : (h : Bool) → held s ≡ h → s.order ≡ rows_order s
    go true q = o q
    go false q = S.order_is (rw q refl)

-- ---- edition 2: where P is 0 the order is the rows', and nothing of a scan is left

record AtZero (s : State) : Type 0 where
  own : s.order ≡ rows_order s
  no_visit : s.scan.visit ≡ none
  none_remain : s.scan.to_visit ≡ []

abbrev Zero : State → Type 0
Zero s = held s ≡ true → s.scan.position ≡ 0 → AtZero s

-- a state without rows has none to visit
none-listed : {b : Stage} {s : State} → SoundTo b s → s.rows ≡ [] → s.scan.to_visit ≡ []
none-listed {b} {s} S r = go s.scan.to_visit (Sublistᴰ.trans S.part (column-part (weights s.channels) s.rows s.scan.column))
  where
    go : (l : List ℕ) → Part l s.rows → l ≡ []
    go [] p = refl
    go (x ∷ l) p = let z : occurs x s.rows ≡ 0 = ap (occurs x) r in absurd (omega (arith, occurs-part x p, occurs-same x l))

-- a record is sent: where a row is left P stays, and it isn't 0 in an open visit; else there is no row
settled-zero : {s : State} → SoundTo after_grant s → (j : ℕ) (rest : List Record) (c : Channel) → s.scan.visit ≡ some j
    → SoundTo after_grant (settled rest s j c) → Zero s → Zero (settled rest s j c)
settled-zero S j (h ∷ rest) c v T Z g p = absurd (none-some (sym (Z g p).no_visit ∙ v))
settled-zero {s} S j [] c v T Z g p = go (is_empty (settled [] s j c).rows) refl
  where
    go : (b : Bool) → is_empty (settled [] s j c).rows ≡ b → AtZero (settled [] s j c)
    go true e =
        record {
          own = rw (e, g) refl;
          no_visit = refl;
          none_remain = none-listed T (empty-nil (settled [] s j c).rows e);
        }
    go false e =
        let same : s.scan.position % 2 ^ s.order ≡ 0 = rw (e, g) at p in
        absurd (none-some (sym (Z g (sym (mod-eq_of_lt S.position) ∙ same)).no_visit ∙ v))

-- another call: the order stays with the rows, or rises to them
call-own : {s s' : State} → Agree (weights s'.channels) (weights s.channels) s.rows → s.order ≡ rows_order s → OrderLeft s s'
    → s'.order ≡ rows_order s'
unfolding fresh order_of
call-own {s} {s'} same o (staying r q) = q ∙ o ∙ sym (ap (order_of (weights s'.channels)) r ∙ order_of_cong _ _ s.rows same)
call-own {s} {s'} same o (joined j r q) =
    let grown : order_of (weights s'.channels) s.rows ≤ rows_order s' = rw r (order_of_append (weights s'.channels) s.rows (j ∷ [])) in
    let was : order_of (weights s'.channels) s.rows ≡ rows_order s = order_of_cong _ _ s.rows same in
    omega arith
call-own same o (no_rows e q) = rw q refl

call-zero : {s : State} → Sound s → (c : Call) → OtherCall s c (step s c) → OrderLeft s (step s c) → Zero s → Zero (step s c)
unfolding fresh order_of
call-zero {s} S c (afresh e E started q) L Z g p = rw q (record { own = refl; no_visit = refl; none_remain = refl })
call-zero {s} S c (quiet ed sc risen alone) L Z g p =
    let A : AtZero s = Z (rw ed at g) (rw sc at p) in
    record {
      own = call-own (λ i m. (alone i (row-waits S refl i m)).weight) A.own L;
      no_visit = rw sc A.no_visit;
      none_remain = rw sc A.none_remain;
    }

zero-moved : (m : Moment) {s : State} → Can s m → SoundTo after_grant s → Zero s → Zero (moved s m)
unfolding moved
zero-moved a_term (v, t, e, n) S Z = λ g p. absurd (let one = (term-position S e).0 in omega arith)
zero-moved an_end O S Z = λ g p. record { own = refl; no_visit = O.no_visit; none_remain = O.none_remain }
zero-moved a_visit {s} (j, rest, v, t) S Z = rw (moved-visit s j rest t) (λ g p. absurd (true≢false (ap is_empty (sym (Z g p).none_remain ∙ t))))
zero-moved a_send {s} (j, h, rest, v, w) S Z =
    let e = moved-send s j h rest v w in
    rw e (settled-zero S j rest (paying h rest (at s.channels j)) v (subst (SoundTo after_grant) e (moved-kept a_send (j, h, rest, v, w) S)) Z)
zero-moved (a_call c) (n, f, T) S Z = call-zero T c (other-call T c n) (other-order T c n) Z

zero-run : (ms : List Moment) {s : State} → Lawful s ms → SoundTo after_grant s → Zero s → Zero (moved_by s ms)
unfolding moved_by
zero-run [] law S Z = Z
zero-run (m ∷ ms) law S Z = zero-run ms law.1 (moved-kept m law.0 S) (zero-moved m law.0 S Z)

fresh-zero : (e : ℕ) → Zero (fresh e)
unfolding fresh order_of
fresh-zero e g p = record { own = refl; no_visit = refl; none_remain = refl }

pub start-own : (e : ℕ) → Edition e → (cs : List Call) → AllInRange cs → Starts (run (fresh e) cs) → held (run (fresh e) cs) ≡ true
    → (run (fresh e) cs).order ≡ rows_order (run (fresh e) cs)
start-own e E cs f B g =
    let L = moments-along cs f (fresh-sound e E) in
    let Z : Zero (run (fresh e) cs) = subst Zero L.there (zero-run (moments_along (fresh e) cs) L.lawful (sound-wider (fresh-sound e E)) (fresh-zero e)) in
    (Z g (subst (λ (h : Bool). StartsAt h (run (fresh e) cs).order (run (fresh e) cs).scan.position) g B.at-end)).own
