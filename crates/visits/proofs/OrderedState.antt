-- The order worked out after the record has left makes the rules' state: the row that leaves takes the order with it at once, or the order is held and the round
-- goes on to its end.
use Prim.Native.Nat.{ℕ, suc, ◌+◌, ◌*◌, ◌%◌, ◌^◌, ◌≤◌, ◌<◌}
use mathlib.Core.Path.{◌≡◌, refl, sym, ap, ◌∙◌, subst}
use mathlib.Core.Bool.{Bool, true, false, not, cond, ◌&&◌}
use mathlib.Core.List.{List, [], ◌∷◌}
use native.Mathlib.Omega.{arith}
use lib.Dec.{eqb}
use lib.ListN.{length}
use lib.Arith.{digits_mod}
use borrow.Author.Tests.{ne_eqb}
use Rattle.lists.specs.Tests.{is_empty}
use Rattle.spread.specs.Limits.{columns}
use Rattle.rules.specs.Numbers.{slots}
use Rattle.rules.specs.State.{Record, Channel, State, at, holds, round_over}
use Rattle.rules.specs.Next.{emptied, row_left, row_stays, settled, ending_round}
use Rattle.rules.specs.Facts.{midway, SoundTo}
use Rattle.rules.proofs.Channels.{at_same}
use Rattle.rules.proofs.Rows.{order-most}
use Rattle.rules.proofs.RoundEnd.{ending_not}
use Rattle.memory.specs.declared.heads.Head.{Head}
use Rattle.memory.specs.declared.point.Scan.{Scan}
use Rattle.memory.specs.Names as the
use Rattle.memory.specs.Layout.{bytes_of}
use Rattle.memory.specs.Reading.{number_in, byte_in, waiting_at, state_of}
use Rattle.memory.specs.Fits.{Fits}
use Rattle.memory.specs.Search.{RowsWait}
use Rattle.memory.specs.Point.{in_numbers, scan_at, holds_at, over_at}
use Rattle.memory.proofs.Lanes.{waiting-is}
use Rattle.memory.proofs.PointEdits.{scan-is}
use Rattle.memory.proofs.RoundOver.{holds_read, over_is}
use Rattle.memory.proofs.RoundTrip.{state_of-bytes}
use Rattle.memory.proofs.UnionOfRows.{rows_wait}
use Rattle.visits.specs.Settle.{Settles, pointed, rowless, unordered}
use Rattle.visits.specs.Order.{reordered, order_of_rows, falls_order, asks_order, ordered, Unordered}
use Rattle.visits.proofs.HeadInNumbers.{emptied-waiting}
use Rattle.visits.proofs.SettledState.{left-fits, taken-unordered, paid}

-- ---- the rules' settled state, in two

-- where the order is not held no round is over
unheld-not_over : (s : State) → holds s s.rows ≡ false → round_over s ≡ false
unfolding round_over
unheld-not_over s e = rw e

fallen_ordered : (s : State) (i : ℕ) → falls_order s i ≡ true → ordered i s ≡ reordered s (order_of_rows s) (s.scan.position % 2 ^ order_of_rows s)
fallen_ordered s i e = rw e

held-ordered : (s : State) (i : ℕ) → falls_order s i ≡ false → ending_round s ≡ ordered i s
held-ordered s i e = rw e

small_mod : {n m : ℕ} → n < m → n % m ≡ n
small_mod {n} {m} l = let e : n ≡ 0 * m + n = omega arith in ap (λ (x : ℕ). x % m) e ∙ digits_mod 0 l

-- P is within the order
module _ (s : State) (i : ℕ) (c : Channel) (size : i < length s.channels) (place : s.scan.position < 2 ^ s.order) where
  abbrev left : State
  left = rowless s i c

  last-gone : is_empty (at left.channels i).waiting ≡ true
  last-gone =
      let here : at left.channels i ≡ emptied c.kind c = at_same s.channels i (emptied c.kind c) size in
      ap (λ (d : Channel). is_empty d.waiting) here ∙ ap is_empty (emptied-waiting c.kind c)

  row-left-ordered : (t : Bool) → holds left left.rows ≡ t → ending_round (row_left s i c) ≡ ordered i left
  row-left-ordered true h =
      let within : s.scan.position % 2 ^ s.order ≡ s.scan.position = small_mod place in
      let same : row_left s i c ≡ left = rw (h, within) in
      ap ending_round same ∙ held-ordered left i (rw (last-gone, h))
  row-left-ordered false h =
      let fallen = reordered left (order_of_rows left) (left.scan.position % 2 ^ order_of_rows left) in
      let same : row_left s i c ≡ fallen = rw h in
      ap ending_round same ∙ ending_not fallen (unheld-not_over fallen h) ∙ sym (fallen_ordered left i (rw (last-gone, h)))

  pub settled-ordered : (rest : List Record) → c.waiting ≡ rest → ending_round (settled rest s i c) ≡ ordered i (unordered rest s i c)
  settled-ordered [] e = row-left-ordered (holds left left.rows) refl
  settled-ordered (h ∷ rest) e =
      let here : at (row_stays s i h c).channels i ≡ c = at_same s.channels i c size in
      let more : is_empty (at (row_stays s i h c).channels i).waiting ≡ false = ap (λ (d : Channel). is_empty d.waiting) here ∙ ap is_empty e in
      held-ordered (row_stays s i h c) i (rw more)

-- ---- the memory that the record has left is one whose order can be worked out

pub stands-unordered : {s : State} {b : List ℕ} → Fits s → b ≡ bytes_of s → RowsWait (bytes_of s) → s.order ≤ columns → order_of_rows s ≤ columns → Unordered b
stands-unordered {s} {b} F e waits k n =
    let is : state_of b ≡ s = ap state_of e ∙ state_of-bytes F in
    record { fits = rw is F; bytes = e ∙ ap bytes_of (sym is); waits = rw e waits; order-low = rw is k; rows-low = rw is n }

module _ {b : List ℕ} {i : ℕ} {head : Head} {k : ℕ} {scan : Scan} (z : Settles b i head k scan) where
  pub left-stands : Fits (unordered z.rest (pointed z) i z.channel)
  left-stands = subst Fits (taken-unordered z) (left-fits (paid z refl))

  pub left-unordered : {b' : List ℕ} → b' ≡ bytes_of (unordered z.rest (pointed z) i z.channel) → Unordered b'
  left-unordered e = go z.rest z.sound e left-stands
    where
      go : (rest : List Record) → SoundTo midway (settled rest (pointed z) i z.channel) → {b' : List ℕ} → b' ≡ bytes_of (unordered rest (pointed z) i z.channel)
          → Fits (unordered rest (pointed z) i z.channel) → Unordered b'
      go [] S e F = stands-unordered F e (rows_wait F (λ j. (S.slot j).row)) z.order-low (omega (arith, S.order-above, order-most S))
      go (h ∷ rest) S e F = stands-unordered F e (rows_wait F (λ j. (S.slot j).row)) (order-most S) (omega (arith, S.order-above, order-most S))

-- ---- what the code reads there

pub none_left : {A : Type 0} (xs : List A) → eqb (length xs) 0 ≡ is_empty xs
none_left [] = refl
none_left (x ∷ xs) = ne_eqb (suc (length xs)) 0 (λ (e : suc (length xs) ≡ 0). omega arith)

module _ {b : List ℕ} (u : Unordered b) where
  pub order-low-read : byte_in the.order b 0 ≤ columns
  unfolding state_of
  order-low-read = u.order-low

  pub position_here : number_in the.position b 0 ≡ (state_of b).scan.position
  unfolding state_of
  position_here = refl

  pub scan-here : scan_at b ≡ in_numbers (state_of b).scan
  scan-here = ap scan_at u.bytes ∙ scan-is u.fits

  pub over_here : over_at b ≡ round_over (state_of b)
  over_here = ap over_at u.bytes ∙ over_is u.fits

  pub falls-here : (i : ℕ) → i < slots → (eqb (waiting_at b i) 0 && not (holds_at b)) ≡ falls_order (state_of b) i
  falls-here i l =
      let waits : waiting_at b i ≡ length (at (state_of b).channels i).waiting = ap (λ (m : List ℕ). waiting_at m i) u.bytes ∙ waiting-is u.fits i l in
      ap (λ (n : ℕ). eqb n 0 && not (holds_at b)) waits
      ∙ ap (λ (t : Bool). t && not (holds_at b)) (none_left (at (state_of b).channels i).waiting)
      ∙ ap (λ (t : Bool). is_empty (at (state_of b).channels i).waiting && not t) (holds_read b)

-- ---- asked and not asked

pub unasked : (s : State) (i : ℕ) → asks_order s i ≡ false → ordered i s ≡ s
unasked s i e = rw e

pub asked : (s : State) (i : ℕ) → asks_order s i ≡ true → {k p : ℕ} → k ≡ order_of_rows s → p ≡ cond (falls_order s i) (s.scan.position % 2 ^ k) 0
    → reordered s k p ≡ ordered i s
asked s i e f g = rw (e, g, f)
