-- The visits of a round in their order, moment by moment and in both editions, while the rows stay: those made and those still to make are the rows of the
-- columns scanned so far. At a round's end, and at the next start, every position was scanned and none is left to make.
use Prim.Native.Nat.{ℕ, zero, suc, ◌+◌, ◌-◌, ◌^◌, ◌≤◌, ◌<◌}
use mathlib.Core.Path.{◌≡◌, refl, sym, ap, ◌∙◌}
use mathlib.Core.Bool.{Bool, true, false, true≢false}
use mathlib.Core.List.{List, [], ◌∷◌, ◌++◌, map, append-nil, append_assoc}
use mathlib.Core.Logic.{inl, inr}
use native.Mathlib.Nat.{add_assoc}
use native.Mathlib.Omega.{arith}
use Rattle.lists.specs.Slots.{occurs}
use Rattle.lists.specs.Tests.{is_empty}
use Rattle.spread.specs.Visits.{column_at}
use Rattle.spread.specs.Round.{visits_from}
use Rattle.rules.specs.State.{State, fresh, at, weights, column_of, held}
use Rattle.rules.specs.Next.{next_position, term_taken, paying, settled}
use Rattle.rules.specs.Calls.{step}
use Rattle.rules.specs.Facts.{after_grant, SoundTo}
use Rattle.rules.proofs.Cases.{none-some}
use Rattle.rules.proofs.Columns.{Agree, column_cong}
use Rattle.rules.proofs.RoundEnd.{Over}
use Rattle.rules.proofs.Choosing.{next-plain}
use Rattle.rules.proofs.NextFrame.{settled-to_visit}
use Rattle.promises.specs.Moments.{Moment, a_term, an_end, a_visit, a_send, a_call, moved, moved_by, sent_at, visits_at, moments_total}
use Rattle.promises.specs.Rounds.{StartsAt, Starts, Waits, WaitsLast, MomentsBefore, MomentsThroughout, MomentsWithin}
use Rattle.promises.specs.Sheets.{started_at, visited_by, RowsAre, slots_of}
use Rattle.promises.proofs.EachCall.{OtherCall, quiet, afresh, other-call}
use Rattle.promises.proofs.Lawful.{Can, Lawful, moved-visit, moved-send, moved-kept}
use Rattle.promises.proofs.Positions.{start-one, over_inside, end-starts, settled-place}
use Rattle.promises.proofs.Running.{Running, turned, is_end, over_sent, one_on, running-moved}
use Rattle.promises.proofs.Rounds.{is-end, none-behind}
use Rattle.promises.proofs.RowsStay.{first-state, row-waits, weights_stay, order-stays}
use Rattle.promises.proofs.SheetColumns.{sheet_term}

-- the positions scanned after t terms: none before the first
abbrev pub reached : ℕ → State → ℕ
reached zero s = 0
reached (suc t) s = s.scan.position

-- the slots visited at the positions 1 to p of order k
abbrev pub scanned : (ℕ → ℕ) → List ℕ → ℕ → ℕ → List ℕ
scanned f rs k p = slots_of rs (visits_from k (map f rs) 0 p)

-- t terms were taken in the round of order k, n records sent, and the slots vs visited. The account of row i, visited v times, is kept beside it: it says where
-- the position stands, and that something is sent before the last
pub record Walk (k : ℕ) (f : ℕ → ℕ) (rs : List ℕ) (i t n v : ℕ) (vs : List ℕ) (s : State) : Type 0 where
  pub rows_are : RowsAre rs s
  pub order_is : s.order ≡ k
  pub agree : Agree (weights s.channels) f rs
  pub running : Running k (f i) i t n v s
  pub walked : vs ++ s.scan.to_visit ≡ scanned f rs k (reached t s)

module _ (k : ℕ) (f : ℕ → ℕ) (rs : List ℕ) (i : ℕ) (row : 1 ≤ occurs i rs) where
  module _ {s : State} (S : SoundTo after_grant s) where
    filled : RowsAre rs s → is_empty s.rows ≡ false
    filled r = go s.rows (rw r row)
      where
        go : (l : List ℕ) → 1 ≤ occurs i l → is_empty l ≡ false
        go [] m = absurd (omega arith)
        go (x ∷ l) m = refl

    waits : RowsAre rs s → s.order ≡ k → Waits k i s
    waits r o = record { order_is = o; waits = row-waits S r i row }

    -- with none to visit, the visits made are those of the positions scanned
    had : {t n v : ℕ} {vs : List ℕ} → Walk k f rs i t n v vs s → s.scan.to_visit ≡ [] → vs ≡ scanned f rs k (reached t s)
    had {vs = vs} W t = sym (append-nil vs) ∙ ap (λ (l : List ℕ). vs ++ l) (sym t) ∙ W.walked

    -- a term is taken at position suc p: its column is what there is to visit
    walked-term : {vs : List ℕ} (p : ℕ) → RowsAre rs s → s.order ≡ k → Agree (weights s.channels) f rs → next_position s.order s.scan.position ≡ suc p
        → vs ≡ scanned f rs k p → vs ++ (term_taken s).scan.to_visit ≡ scanned f rs k (term_taken s).scan.position
    walked-term {vs} p r o g q e =
        let found : (term_taken s).scan.to_visit ≡ column_of f rs (column_at k (suc p)) =
        ap (λ (x : ℕ). column_of (weights s.channels) s.rows (column_at s.order x)) q
        ∙ ap (λ (x : ℕ). column_of (weights s.channels) s.rows (column_at x (suc p))) o
        ∙ ap (λ (l : List ℕ). column_of (weights s.channels) l (column_at k (suc p))) r
        ∙ column_cong (weights s.channels) f rs (column_at k (suc p)) g
        in
        ap (λ (l : List ℕ). vs ++ l) found ∙ ap (λ (l : List ℕ). l ++ column_of f rs (column_at k (suc p))) e ∙ sym (sheet_term f rs k p)
        ∙ ap (scanned f rs k) (sym q)

    -- any moment but a round's end
    walked-moved : (m : Moment) (t n v : ℕ) (vs : List ℕ) → is_end m ≡ false → Can s m → (0 < n → Starts s → ⊥) → (moved s m).order ≡ s.order
        → is_empty (moved s m).rows ≡ false → Walk k f rs i t n v vs s
        → (vs ++ started_at s m) ++ (moved s m).scan.to_visit ≡ scanned f rs k (reached (turned t m) (moved s m))
    unfolding moved fresh
    walked-moved a_term zero n v vs x can within o e W =
        rw (append-nil vs)
        (walked-term 0 W.rows_are W.order_is W.agree (start-one S W.running.starts) (had W can.1))
    walked-moved a_term (suc t) n v vs x can within o e W =
        let w = waits W.rows_are W.order_is in
        let on = one_on S w (W.agree i row) n v within W.running can in
        rw (append-nil vs)
        (walked-term s.scan.position W.rows_are W.order_is W.agree (next-plain s.order s.scan.position on) (had W can.1))
    walked-moved an_end t n v vs x can within o e W = absurd (true≢false x)
    walked-moved a_visit zero n v vs x (j, rest, nv, l) within o e W = absurd (true≢false (ap is_empty (sym W.running.starts.none_remain ∙ l)))
    walked-moved a_visit (suc t) n v vs x (j, rest, nv, l) within o e W =
        rw (moved-visit s j rest l, l) (append_assoc vs (j ∷ []) rest ∙ ap (λ (y : List ℕ). vs ++ y) (sym l) ∙ W.walked)
    walked-moved a_send zero n v vs x (j, h, rest, w, y) within o e W = absurd (none-some (sym W.running.starts.no_visit ∙ w))
    walked-moved a_send (suc t) n v vs x (j, h, rest, w, y) within o e W =
        let g = moved-send s j h rest w y in
        let c = paying h rest (at s.channels j) in
        let p : (settled rest s j c).scan.position ≡ s.scan.position = settled-place rest s j c S.position (rw g at o) in
        rw (append-nil vs, g, (settled-to_visit rest s j c).0, p) W.walked
    walked-moved (a_call c) t n v vs x (y, b, T) within o e W = rw (append-nil vs) (go t (other-call T c y) W.walked)
      where
        go : (t : ℕ) → OtherCall s c (step s c) → vs ++ s.scan.to_visit ≡ scanned f rs k (reached t s)
            → vs ++ (step s c).scan.to_visit ≡ scanned f rs k (reached t (step s c))
        go t (afresh z E started q) was = absurd (true≢false (ap (λ (r : State). is_empty r.rows) (sym q) ∙ e))
        go zero (quiet ed sc risen alone) was = rw sc was
        go (suc t) (quiet ed sc risen alone) was = rw sc was

    walk_moved : (m : Moment) (t n v : ℕ) (vs : List ℕ) → is_end m ≡ false → Can s m → (0 < n → Starts s → ⊥) → RowsAre rs (moved s m) → Walk k f rs i t n v vs s
        → Walk k f rs i (turned t m) (n + sent_at s m) (v + visits_at i s m) (vs ++ started_at s m) (moved s m)
    walk_moved m t n v vs x can within now W =
        let T : SoundTo after_grant (moved s m) = moved-kept m can S in
        let same : (moved s m).rows ≡ s.rows = now ∙ sym W.rows_are in
        let e = filled W.rows_are in
        let o : (moved s m).order ≡ s.order = order-stays m x can S e same in
        let L : WaitsLast k i (moved s m) = record { order_is = λ g. o ∙ W.order_is; waits = row-waits T now i row } in
        record {
          rows_are = now;
          order_is = o ∙ W.order_is;
          agree = weights_stay m can S W.rows_are now W.agree;
          running = running-moved S (waits W.rows_are W.order_is) (W.agree i row) m t n v x can L within W.running;
          walked = walked-moved m t n v vs x can within o (ap is_empty same ∙ e) W;
        }

    -- at the last position, none to visit, the round's visits are made
    walk_last : {t n v : ℕ} {vs : List ℕ} → Walk k f rs i (suc t) n v vs s → s.scan.to_visit ≡ [] → suc s.scan.position ≡ 2 ^ s.order
        → vs ≡ scanned f rs k (2 ^ k - 1)
    walk_last {vs = vs} W t q =
        let p : suc s.scan.position ≡ 2 ^ k = rw (← W.order_is) q in
        let l : s.scan.position ≡ 2 ^ k - 1 = omega arith in
        had W t ∙ ap (scanned f rs k) l

    -- at a round's end, something having been sent; and at a start
    walk_over : (t n v : ℕ) (vs : List ℕ) → Over s → Walk k f rs i t n v vs s → (0 < n) × (vs ≡ scanned f rs k (2 ^ k - 1))
    walk_over zero n v vs O W = absurd (over_inside S O W.running.starts)
    walk_over (suc t) n v vs O W =
        (over_sent S (waits W.rows_are W.order_is) (W.agree i row) (suc t) n v O W.running, walk_last W O.none_remain O.last)

    walk_starts : (t n v : ℕ) (vs : List ℕ) → 0 < n → Starts s → Walk k f rs i t n v vs s → vs ≡ scanned f rs k (2 ^ k - 1)
    walk_starts zero n v vs sent B W = absurd (let z = W.running.none-sent in omega arith)
    walk_starts (suc t) n v vs sent B W = go (held s) B.at-end
      where
        go : (h : Bool) → StartsAt h s.order s.scan.position → vs ≡ scanned f rs k (2 ^ k - 1)
        go true z = absurd (let one = W.running.from_one in omega arith)
        go false (inl z) = absurd (let one = W.running.from_one in omega arith)
        go false (inr z) = walk_last W B.none_remain z

  -- ---- over the moments, up to the next start

  pub walk_round : (t n v : ℕ) (vs : List ℕ) (ms : List Moment) (s : State) → Lawful s ms
      → SoundTo after_grant s → MomentsWithin n s ms → MomentsThroughout (RowsAre rs) s ms → 0 < n + moments_total sent_at s ms → Starts (moved_by s ms)
      → Walk k f rs i t n v vs s → vs ++ visited_by s ms ≡ scanned f rs k (2 ^ k - 1)
  unfolding MomentsWithin MomentsBefore moments_total moved_by moved visited_by
  walk_round t n v vs [] s law S inside st sent B W = rw (append-nil vs) (walk_starts S t n v vs (omega arith) B W)
  walk_round t n v vs (m ∷ ms) s law S inside st sent B W =
      go (is_end m) refl
      (walk_round (turned t m) (n + sent_at s m) (v + visits_at i s m) (vs ++ started_at s m) ms (moved s m) law.1 (moved-kept m law.0 S) inside.1
      (st.0.1, st.1) (rw (add_assoc n (sent_at s m) (moments_total sent_at (moved s m) ms)) sent) B)
    where
      go : (b : Bool) → is_end m ≡ b
          → (Walk k f rs i (turned t m) (n + sent_at s m) (v + visits_at i s m) (vs ++ started_at s m) (moved s m)
          → (vs ++ started_at s m) ++ visited_by (moved s m) ms ≡ scanned f rs k (2 ^ k - 1))
          → vs ++ (started_at s m ++ visited_by (moved s m) ms) ≡ scanned f rs k (2 ^ k - 1)
      go true q later =
          let end : m ≡ an_end = is-end m q in
          let O : Over s = rw end at law.0 in
          let (l, made) = walk_over S t n v vs O W in
          let none : ms ≡ [] = none-behind (n + sent_at s m) (moved s m) ms inside.1 (omega arith) (rw end (end-starts O)) in
          rw (none, end, append-nil vs) made
      go false q later =
          let now : RowsAre rs (moved s m) = first-state (RowsAre rs) ms (moved s m) (st.0.1, st.1) in
          sym (append_assoc vs (started_at s m) (visited_by (moved s m) ms)) ∙ later (walk_moved S m t n v vs q law.0 inside.0 now W)

-- from a start
pub walk_start : {f : ℕ → ℕ} {rs : List ℕ} {i : ℕ} {s : State} → RowsAre rs s → Agree (weights s.channels) f rs → Starts s
    → Walk s.order f rs i 0 0 0 [] s
unfolding visits_from
walk_start r g B =
    record {
      rows_are = r;
      order_is = refl;
      agree = g;
      running = record { starts = B; none-sent = refl; none_yet = refl };
      walked = B.none_remain;
    }
