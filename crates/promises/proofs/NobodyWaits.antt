-- Nobody waits two rounds (02 §13), over moments: let a slot of weight w wait and be neither visited in the round nor listed; then P is below 2^(k - o), where o
-- is the order of w. The term at 2^(k - o) scans the highest column of w and lists it, a rise of k only widens the bound, and no call but Next moves P. So the
-- round can't come to its last position without the visit, however often the order rises.
use Prim.Native.Nat.{ℕ, suc, ◌+◌, ◌-◌, ◌^◌, ◌≤◌, ◌<◌}
use mathlib.Core.Path.{◌≡◌, refl, sym, ap, ◌∙◌, subst}
use mathlib.Core.Bool.{Bool, true, false, true≢false}
use mathlib.Core.List.{List}
use mathlib.Core.Logic.{◌⊎◌, inl, inr}
use native.Mathlib.Nat.{one-mul, le_trans, lt_of_lt_of_le}
use native.Mathlib.Decide.{dec_lt}
use native.Mathlib.Omega.{arith}
use lib.Dec.{eqb}
use lib.Pow.{pow_pos, pow-lt, pow_mono}
use Rattle.bits.specs.Order.{order}
use Rattle.bits.proofs.OrderLaws.{order-pos}
use Rattle.lists.specs.Slots.{occurs}
use Rattle.lists.specs.Tests.{is_empty}
use Rattle.lists.proofs.SlotsLaws.{occurs-other}
use Rattle.spread.specs.Visits.{visit}
use Rattle.spread.proofs.JumpLaws.{column-filled}
use Rattle.rules.specs.Numbers.{holding}
use Rattle.rules.specs.State.{State, at, weights, held}
use Rattle.rules.specs.Next.{next_position, term_taken, visit_started, paying, settled}
use Rattle.rules.specs.Calls.{step}
use Rattle.rules.specs.Facts.{after_grant, SoundTo}
use Rattle.rules.proofs.Cases.{none-some}
use Rattle.rules.proofs.Columns.{order_of-row}
use Rattle.rules.proofs.RoundEnd.{Over}
use Rattle.rules.proofs.Choosing.{next-plain}
use Rattle.rules.proofs.Steps.{term-position}
use Rattle.rules.proofs.NextFrame.{settled-to_visit}
use Rattle.promises.specs.Moments.{Moment, a_term, an_end, a_visit, a_send, a_call, moved, moved_by, sent_at, visits_at, moments_total}
use Rattle.promises.specs.Rounds.{StartsAt, Starts}
use Rattle.promises.specs.NobodyWaits.{HeldRound, is_restart, NoRestart}
use Rattle.promises.proofs.Waiting.{waits-row, waits-rows, weight-least}
use Rattle.promises.proofs.EachCall.{OtherCall, quiet, afresh, other-call}
use Rattle.promises.proofs.Lawful.{Can, Lawful, moved-visit, moved-send, moved-kept}
use Rattle.promises.proofs.Positions.{start-one, start-stays, over_inside, settled-order, settled-place}
use Rattle.promises.proofs.Running.{column-visit}
use Rattle.promises.proofs.StillWaits.{Waited, Keeps, not_first, moment_keeps, visited_or_waits}

-- position 2^(k - o) scans the highest column of a weight of order o
top-listed : (k w : ℕ) → 1 ≤ w → order w ≤ k → visit k w (2 ^ (k - order w)) ≡ 1
unfolding visit
top-listed k w l h = rw (one-mul (2 ^ (k - order w))) at (column-filled k w 1 l h refl)

-- ---- not visited since the round began

record Ahead (i : ℕ) (s : State) : Type 0 where
  from_one : 1 ≤ s.scan.position
  ahead : occurs i s.scan.to_visit ≡ 0 → s.scan.position < 2 ^ (s.order - order (at s.channels i).weight)

-- before the first term, with no record sent, or after it
data Unvisited (i n : ℕ) (s : State) : Type 0 where
  before : Starts s → n ≡ 0 → Unvisited i n s
  under : Ahead i s → Unvisited i n s

module _ (i : ℕ) {s : State} (S : SoundTo after_grant s) (W : Waited i s) where
  abbrev w : ℕ
  w = (at s.channels i).weight

  -- the highest column of the weight is one of the k columns
  weight-order : (1 ≤ order w) × (order w ≤ s.order)
  weight-order =
      let m : occurs i s.rows ≡ 1 = waits-row S i W.waits in
      (order-pos w (weight-least S i W.waits), le_trans (order_of-row (weights s.channels) i s.rows (omega arith)) S.order-above)

  -- a term is taken at position suc q: at 2^(k - o) the slot is listed
  ahead-term : (q : ℕ) → Can s a_term → next_position s.order s.scan.position ≡ suc q → q < 2 ^ (s.order - order w) → Ahead i (term_taken s)
  ahead-term q (nv, t, r, o) p l = record { from_one = (term-position S r).0; ahead = λ z. rw p (go (next q l) z) }
    where
      listed : occurs i (term_taken s).scan.to_visit ≡ visit s.order w (suc q)
      listed = rw p (column-visit (weights s.channels) s.rows s.order (suc q) i (waits-row S i W.waits))

      next : (q : ℕ) → q < 2 ^ (s.order - order w) → (suc q < 2 ^ (s.order - order w)) ⊎ (suc q ≡ 2 ^ (s.order - order w))
      next q l = elim (dec_lt (suc q) (2 ^ (s.order - order w))) [ yes h ↦ inl h | no h ↦ inr (omega arith) ]

      go : (suc q < 2 ^ (s.order - order w)) ⊎ (suc q ≡ 2 ^ (s.order - order w)) → occurs i (term_taken s).scan.to_visit ≡ 0
          → suc q < 2 ^ (s.order - order w)
      go (inl h) z = h
      go (inr h) z =
          absurd
          (omega (arith, top-listed s.order w (weight-least S i W.waits) weight-order.1, listed, ap (visit s.order w) h))

  -- the position is not the last
  far : s.scan.position < 2 ^ (s.order - order w) → suc s.scan.position < 2 ^ s.order
  far l =
      let (one, most) = weight-order in
      let d : s.order - order w < s.order = omega arith in
      omega (arith, pow-lt d)

  -- so this is no round's end
  not_over : {n : ℕ} → Unvisited i n s → Over s → ⊥
  not_over (before B z) O = over_inside S O B
  not_over (under A) O =
      let l : suc s.scan.position < 2 ^ s.order = far (A.ahead (rw O.none_remain refl)) in
      let last : suc s.scan.position ≡ 2 ^ s.order = O.last in
      omega arith

  -- ---- the moments

  unvisited_moved : (m : Moment) (n : ℕ) → Can s m → is_restart m ≡ false → visits_at i s m ≡ 0 → Keeps i s (moved s m) → Unvisited i n s
      → Unvisited i (n + sent_at s m) (moved s m)
  unfolding moved
  unvisited_moved a_term n can x z K (before B e) = under (ahead-term 0 can (start-one S B) (pow_pos _))
  unvisited_moved a_term n can x z K (under A) =
      let a : s.scan.position < 2 ^ (s.order - order w) = A.ahead (rw can.1 refl) in
      under (ahead-term s.scan.position can (next-plain s.order s.scan.position (far a)) a)
  unvisited_moved an_end n can x z K U = absurd (not_over U can)
  unvisited_moved a_visit n (j, rest, v, l) x z K (before B e) = absurd (true≢false (ap is_empty (sym B.none_remain ∙ l)))
  unvisited_moved a_visit n (j, rest, v, l) x z K (under A) =
      let e = moved-visit s j rest l in
      let same : (at (visit_started s j rest).channels i).weight ≡ w = subst (λ (r : State). (at r.channels i).weight ≡ w) e K.weight in
      under
      (subst (Ahead i) (sym e)
      (record {
        from_one = A.from_one;
        ahead = λ y. subst (λ (x : ℕ). s.scan.position < 2 ^ (s.order - order x)) (sym same)
            (A.ahead (rw (l, occurs-other i j rest (not_first i s j rest l z)) y));
      }))
  unvisited_moved a_send n (j, h, rest, v, y) x z K (before B e) = absurd (none-some (sym B.no_visit ∙ v))
  unvisited_moved a_send n (j, h, rest, v, y) x z K (under A) =
      let e = moved-send s j h rest v y in
      let c = paying h rest (at s.channels j) in
      let T : SoundTo after_grant (settled rest s j c) = subst (SoundTo after_grant) e (moved-kept a_send (j, h, rest, v, y) S) in
      let L : Keeps i s (settled rest s j c) = subst (Keeps i s) e K in
      let k : (settled rest s j c).order ≡ s.order =
      settled-order rest s j c (waits-rows T i L.waits) (λ q. absurd (true≢false (sym W.held-there ∙ q)))
      in
      let p : (settled rest s j c).scan.position ≡ s.scan.position = settled-place rest s j c S.position k in
      under
      (subst (Ahead i) (sym e)
      (record { from_one = rw p A.from_one; ahead = λ q. rw (p, k, L.weight) (A.ahead (rw (settled-to_visit rest s j c).0 at q)) }))
  unvisited_moved (a_call c) n (y, f, T) x z K U = call (other-call T c y) U
    where
      call : OtherCall s c (step s c) → Unvisited i n s → Unvisited i (n + 0) (step s c)
      call (afresh e E r q) U = absurd (true≢false (sym r ∙ x))
      call (quiet ed sc up alone) (before B q) =
          let still : held (step s c) ≡ true = ap (λ (e : ℕ). eqb e holding) ed ∙ W.held-there in
          before
          (start-stays ed sc (λ q. absurd (true≢false (sym still ∙ q))) (waits-rows (moved-kept (a_call c) (y, f, T) S) i K.waits) B)
          (omega arith)
      call (quiet ed sc up alone) (under A) =
          let d : s.order - order w ≤ (step s c).order - order w = omega arith in
          under
          (record {
            from_one = rw sc A.from_one;
            ahead = λ q. rw (sc, K.weight) (lt_of_lt_of_le (A.ahead (rw sc at q)) (pow_mono d));
          })

-- ---- a round

-- at a start after a send it has been visited
not-started : (i n : ℕ) {s : State} → held s ≡ true → 0 < n → Unvisited i n s → Starts s → ⊥
not-started i n g l (before B z) C = omega arith
not-started i n {s} g l (under A) C =
    let z : s.scan.position ≡ 0 = subst (λ (h : Bool). StartsAt h s.order s.scan.position) g C.at-end in
    let one = A.from_one in
    omega arith

-- a channel with a record waiting at the start of a round of edition 2 is visited in it
pub nobody-waits : (i : ℕ) (s : State) (ms : List Moment) → SoundTo after_grant s → Lawful s ms → NoRestart ms → HeldRound i s ms
    → 1 ≤ moments_total (visits_at i) s ms
nobody-waits i s ms S law on H =
    go
    (visited_or_waits i (Unvisited i) (λ m n r T can x z Y U. unvisited_moved i T Y m n can x z (moment_keeps i Y m can x z) U) 0 s ms law S on
    (record { held-there = H.held-there; waits = H.waits; out = λ e. none-some (sym H.round.starts.no_visit ∙ e) })
    (before H.round.starts refl))
  where
    go : (1 ≤ moments_total (visits_at i) s ms) ⊎ (Waited i (moved_by s ms) × Unvisited i (0 + moments_total sent_at s ms) (moved_by s ms))
        → 1 ≤ moments_total (visits_at i) s ms
    go (inl l) = l
    go (inr (Y, U)) = absurd (not-started i (0 + moments_total sent_at s ms) Y.held-there (let l = H.round.sent in omega arith) U H.round.ends)
