-- The page put from the code's numbers is that of the choice the rules make: masks tell lists, and a term taken leaves a position above 0.
use mathlib.Core.Path.{◌≡◌, refl, sym, ap, ◌∙◌}
use mathlib.Core.Bool.{Bool, true, false, cond, ◌||◌}
use mathlib.Core.List.{List, [], ◌∷◌, ◌++◌}
use mathlib.Core.Option.{some, map}
use Prim.Native.Nat.{ℕ, zero, suc, ◌+◌, ◌*◌, ◌-◌, ◌^◌, ◌≤◌, ◌<◌}
use native.Mathlib.Omega.{arith}
use lib.Dec.{eqb}
use lib.ListN.{length, length-append}
use lib.Pow.{pow_mono}
use borrow.Author.Tests.{eq-eqb, ne_eqb}
use Rattle.bits.specs.Bit.{bit}
use Rattle.bits.specs.Mask.{mask_of}
use Rattle.bits.proofs.MaskLaws.{mask-occurs}
use Rattle.lists.specs.Slots.{occurs, Once}
use Rattle.lists.specs.Tests.{is_empty}
use Rattle.lists.proofs.OnceLaws.{once-part}
use Rattle.spread.specs.Limits.{columns}
use Rattle.spread.specs.Sequence.{term}
use Rattle.spread.specs.Visits.{column_at}
use Rattle.spread.proofs.Rule.{term-le}
use Rattle.rules.specs.State.{State, weights, round_over}
use Rattle.rules.specs.Next as rules
use Rattle.rules.specs.Next.{next_position, term_taken, ending_round}
use Rattle.rules.specs.Facts.{Stage, SoundTo}
use Rattle.rules.proofs.Cases.{some_inj}
use Rattle.rules.proofs.Rows.{order-most, row_lt}
use Rattle.rules.proofs.RoundEnd.{over_facts, ending_not, ending_over}
use Rattle.rules.proofs.Choosing as choosing
use Rattle.rules.proofs.Choosing.{Scans, at_once, one_more, going_on, starting}
use Rattle.memory.specs.declared.point.Scan.{Scan}
use Rattle.memory.specs.Point.{in_numbers}
use Rattle.memory.specs.Reading.{state_of}
use Rattle.memory.proofs.Fitting.{rows_few}
use Rattle.memory.proofs.Masks.{mask-empty, mask-cons}
use Rattle.memory.proofs.SoundFits.{sound-fits, column-lt}
use Rattle.visits.specs.Choice.{chosen_of, in_chosen, Chooses}
use Rattle.visits.specs.declared.choose.Chosen.{Chosen}
use Rattle.page.specs.Page.{term_shown, first_line, columns_line, row_line, cells_of, visit_word, to_visit_word, mark, row_lines, scanned, page_by, page_of, line_room, page_room}
use Rattle.page.specs.InNumbers.{line_in, scanned_in, Taken, head_in, page_in}
use Rattle.page.proofs.PageLaws.{rows_same}
use Rattle.page.proofs.RoomLaws.{first-most, columns-most, line-most, rows-most}

-- ---- where a term was taken, P is not 0

next-some : (k p : ℕ) → 0 < next_position k p
next-some k p = go (eqb (p + 1) (2 ^ k))
  where
    go : (b : Bool) → 0 < cond b 1 (p + 1)
    go true = omega arith
    go false = omega arith

-- a round that ends has none left to visit
ending_some : (s : State) → ((ending_round s).scan.to_visit ≡ [] → ⊥) → 0 < s.scan.position → 0 < (ending_round s).scan.position
ending_some s listed h = go (round_over s) refl
  where
    go : (b : Bool) → round_over s ≡ b → 0 < (ending_round s).scan.position
    go true e = absurd (listed (ap (λ (t : State). t.scan.to_visit) (ending_over s e) ∙ (over_facts s e).none_remain))
    go false e = rw (ending_not s e) h

scans-some : {x : rules.Chosen} {n : ℕ} {s : State} → Scans x n s → ((n ≡ 0 → ⊥) → (s.scan.to_visit ≡ [] → ⊥) → 0 < s.scan.position)
    → (x.terms ≡ 0 → ⊥) → 0 < x.state.scan.position
scans-some {x} {n} {s} (at_once i rest q g) h t =
    let there : s.scan.to_visit ≡ [] → ⊥ = λ e. let z : ◌≡◌ {A = ℕ} 0 1 = cc in omega arith in
    rw g (h (λ e. t (ap (λ (y : rules.Chosen). y.terms) g ∙ e)) there)
scans-some {x} {n} {s} (one_more q later) h t =
    scans-some later (λ m listed. ending_some (term_taken s) listed (next-some s.order s.scan.position)) t

chosen-some : {x : rules.Chosen} {s : State} → choosing.Chooses x s → (x.terms ≡ 0 → ⊥) → 0 < x.state.scan.position
chosen-some {x} {s} (going_on v g) t = absurd (t (ap (λ (y : rules.Chosen). y.terms) g))
chosen-some {x} {s} (starting v way) t = scans-some way (λ n listed. absurd (n refl)) t

-- ---- masks and lists

none-listed : (xs : List ℕ) → eqb (mask_of xs) 0 ≡ is_empty xs
none-listed [] = eq-eqb (mask_of []) 0 mask-empty
none-listed (x ∷ xs) = ne_eqb (mask_of (x ∷ xs)) 0 (mask-cons x xs)

scanned-same : (s : State) (y : rules.Chosen) → scanned_in (in_numbers s.scan) (in_chosen y) ≡ scanned s y
unfolding scanned_in scanned
scanned-same s y = rw (none-listed s.scan.to_visit)

-- a slot is still to visit where the mask has it
page_made : (s : State) (y : rules.Chosen) → Once y.state.scan.to_visit
    → page_in (weights s.channels) s.rows (in_numbers s.scan) (in_chosen y) ≡ page_by s (some y)
page_made s y once =
    let f = weights s.channels in
    let k = y.state.order in
    let q = y.state.scan.position in
    let line : (ℕ → Bool) → ℕ → List ℕ = λ v i. row_line i (f i) (cells_of k (f i)) (mark y.slot v i) in
    let in_mask : ℕ → Bool = λ i. eqb (bit i (mask_of y.state.scan.to_visit)) 1 in
    let in_list : ℕ → Bool = λ i. eqb (occurs i y.state.scan.to_visit) 1 in
    let lines : row_lines (line in_mask) s.rows ≡ row_lines (line in_list) s.rows =
    rows_same (line in_mask) (line in_list) s.rows (λ i. line_same f k y.slot i (mask-occurs i y.state.scan.to_visit once)) in
    ap (λ (c : ℕ). (first_line k q (term_shown q) c ++ columns_line k c) ++ row_lines (line in_mask) s.rows) (scanned-same s y)
    ∙ ap (λ (l : List ℕ). (first_line k q (term_shown q) (scanned s y) ++ columns_line k (scanned s y)) ++ l) lines
  where
    line_same : (f : ℕ → ℕ) (k j i : ℕ) {m n : ℕ} → m ≡ n
        → row_line i (f i) (cells_of k (f i)) (cond (eqb i j) visit_word (cond (eqb m 1) to_visit_word [])) ≡ row_line i (f i) (cells_of k (f i)) (cond (eqb i j) visit_word (cond (eqb n 1) to_visit_word []))
    line_same f k j i e = ap (λ (m : ℕ). row_line i (f i) (cells_of k (f i)) (cond (eqb i j) visit_word (cond (eqb m 1) to_visit_word []))) e

-- the page of a state with rows that isn't parked is that of its choice
page-by : (s : State) (y : rules.Chosen) → s.parked ≡ false → is_empty s.rows ≡ false → chosen_of s ≡ some y → page_of s ≡ page_by s (some y)
unfolding page_of
page-by s y unmarked filled e =
    ap (λ (m : Bool). cond (m || is_empty s.rows) [] (page_by s (chosen_of s))) unmarked
    ∙ ap (λ (t : Bool). cond t [] (page_by s (chosen_of s))) filled ∙ ap (page_by s) e

listed-once : {b : Stage} {s : State} → SoundTo b s → Once s.scan.to_visit
listed-once S = let F = sound-fits S in once-part F.part F.once

-- ---- the numbers are small

term-most : (k p : ℕ) → k ≤ columns → p < 2 ^ k → term_shown p < 2 ^ 32
unfolding term_shown
term-most k zero l h = omega arith
term-most k (suc p) l h = omega (arith, term-le k (suc p) (omega arith) h)

scanned-most : (p : Scan) (x : Chosen) → x.order ≤ columns → p.column < columns → scanned_in p x < 2 ^ 32
unfolding scanned_in column_at
scanned-most p x k c = go (eqb x.terms 0) (eqb p.mask 0)
  where
    go : (a b : Bool) → cond a (cond b 0 (suc p.column)) (suc (x.order - term x.scan.position)) < 2 ^ 32
    go true true = omega arith
    go true false = omega arith
    go false b = omega arith

-- ---- the choice x, made on the sound memory b with rows, from the numbers p of its scan point

module _ {b : List ℕ} {p : Scan} {x : Chosen} (C : Chooses b p) (e : some x ≡ map in_chosen (chosen_of (state_of b))) where
  abbrev here : State
  here = state_of b

  -- the rules' choice, and what is true of it
  record Made : Type 0 where
    made : rules.Chosen
    chosen : chosen_of here ≡ some made
    way : choosing.Chooses made here
    numbers : x ≡ in_chosen made

  was-made : Made
  was-made =
      let (y, g, way, few) = choosing.choosing C.memory.state C.filled in
      record { made = y; chosen = g; way = way; numbers = some_inj (e ∙ ap (map in_chosen) g) }

  pub taken : Taken x
  taken =
      let M = was-made in
      let S = (choosing.choice C.memory.state C.filled M.way).sound in
      rw M.numbers
      (record { order-low = order-most S; position-low = S.position; position_some = chosen-some M.way })

  pub page_same : here.parked ≡ false → page_in (weights here.channels) here.rows p x ≡ page_of here
  page_same unmarked =
      let M = was-made in
      let f = weights here.channels in
      let once = (choosing.choice C.memory.state C.filled M.way).sound in
      ap (λ (q : Scan). page_in f here.rows q x) C.scan-is
      ∙ ap (λ (z : Chosen). page_in f here.rows (in_numbers here.scan) z) M.numbers
      ∙ page_made here M.made (listed-once once)
      ∙ sym (page-by here M.made unmarked C.filled M.chosen)

  pub page_fits : length (page_in (weights here.channels) here.rows p x) ≤ page_room
  page_fits =
      let T = taken in
      let S = C.memory.state in
      let F = sound-fits S in
      let k = x.order in
      let q = x.scan.position in
      let c = scanned_in p x in
      let f = weights here.channels in
      let wide : 2 ^ k ≤ 2 ^ columns = pow_mono T.order-low in
      let column : p.column < columns = rw C.scan-is (column-lt S) in
      let lines : length (row_lines (line_in f x) here.rows) ≤ length here.rows * line_room =
      rows-most (line_in f x) here.rows (λ i l. line-most f x i T.order-low (omega (arith, row_lt S i l)) (omega (arith, (F.slot i).weight-fits))) in
      omega (
        arith,
        length-append (head_in p x) (row_lines (line_in f x) here.rows),
        length-append (first_line k q (term_shown q) c) (columns_line k c),
        first-most k q (term_shown q) c (omega (arith, T.order-low)) (omega (arith, wide, T.position-low)) (term-most k q T.order-low T.position-low) (scanned-most p x T.order-low column),
        columns-most k c T.order-low,
        lines,
        rows_few F,
      )
