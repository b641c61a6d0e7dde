-- A row that is not in the mask may be passed over, so the first one that is left is the first of all. It is a slot, so there is one left.
use Prim.Native.Nat.{ℕ, suc, ◌<◌}
use mathlib.Core.Path.{◌≡◌, refl, sym, ap, ◌∙◌, subst}
use mathlib.Core.Bool.{Bool, true, false}
use mathlib.Core.List.{List}
use native.Mathlib.Decide.{dec_lt}
use native.Mathlib.Omega.{arith}
use native.Mathlib.Numerals.{add-one}
use lib.Dec.{eqb}
use lib.ListN.{length, get_or, drop}
use Rattle.bits.specs.Bit.{bit}
use Rattle.rules.specs.Numbers.{slots}
use Rattle.memory.specs.Reading.{row_count_at, in_mask, state_of}
use Rattle.memory.specs.Search.{first_slot}
use Rattle.memory.proofs.SearchLaws.{rows-length, keep-drop_in, keep-drop-out, keep-drop-end}
use Rattle.memory.proofs.search.first_in.Goals as goal

-- where one is left from i on, i is the place of a row
some_left : (mask : ℕ) (rows : List ℕ) (i : ℕ) → first_slot (in_mask mask (drop i rows)) < slots → i < length rows
some_left mask rows i h =
    elim (dec_lt i (length rows)) [
      | yes l ↦ l
      | no l ↦
          let none : first_slot (in_mask mask (drop i rows)) ≡ slots = ap first_slot (keep-drop-end (λ r. eqb (bit r mask) 1) rows i (omega arith)) in
          absurd (omega arith)
    ]

-- the row at hand, at place i, is not in the mask: what is left begins behind it, and there is one
module _ (mask row i : ℕ) (b : List ℕ) (here : i < row_count_at b) (is : row ≡ get_or (state_of b).rows i 0) (first : first_slot (in_mask mask (state_of b).rows) < slots)
    (left : first_slot (in_mask mask (state_of b).rows) ≡ first_slot (in_mask mask (drop i (state_of b).rows))) (no : eqb (bit row mask) 1 ≡ false)
  where
    passed : first_slot (in_mask mask (state_of b).rows) ≡ first_slot (in_mask mask (drop (suc i) (state_of b).rows))
    passed =
        let rows = (state_of b).rows in
        let test : ℕ → Bool = λ r. eqb (bit r mask) 1 in
        let lacks : test (get_or rows i 0) ≡ false = ap test (sym is) ∙ no in
        left ∙ ap first_slot (keep-drop-out test rows i (omega (arith, rows-length b, here)) lacks)

    next_there : suc i < row_count_at b
    next_there =
        let behind = some_left mask (state_of b).rows (suc i) (subst (λ (n : ℕ). n < slots) passed first) in
        omega (arith, rows-length b, behind)

pub row_at-row-requires : goal.row_at-row-requires
row_at-row-requires c =
    let b = c.args.state.now in
    let left = some_left c.args.mask (state_of b).rows 0 c.requires.1 in
    (c.requires.0, omega (arith, rows-length b, left))

pub loop-row-init : goal.loop-row-init
loop-row-init c =
    let b = c.args.state.now in
    let left = some_left c.args.mask (state_of b).rows 0 c.requires.1 in
    (omega (arith, rows-length b, left), c.row_at-row.ensures.0, c.row_at-row.ensures.1, refl)

pub overflow_cast-row : goal.overflow_cast-row
overflow_cast-row c = omega (arith, c.loop-row.invariant.2)

pub in_mask-requires : goal.in_mask-requires
in_mask-requires c = omega (arith, c.loop-row.invariant.2)

pub overflow_add-i : goal.overflow_add-i
overflow_add-i c = omega (arith, c.loop-row.invariant.0, c.requires.0.few)

pub returns : goal.returns
returns c =
    let l = c.loop-row in
    let a = c.args in
    let b = a.state.now in
    let rows = (state_of b).rows in
    let test : ℕ → Bool = λ r. eqb (bit r a.mask) 1 in
    let has : test (get_or rows l.i 0) ≡ true = ap test (sym l.invariant.1) ∙ sym c.in_mask.ensures ∙ c.loop-row-test.false in
    let here = keep-drop_in test rows l.i (omega (arith, rows-length b, l.invariant.0)) has in
    l.invariant.1 ∙ sym (l.invariant.3 ∙ ap first_slot here)

pub row_at-row-requires-in-loop-row : goal.row_at-row-requires-in-loop-row
row_at-row-requires-in-loop-row c = (c.requires.0, omega (arith, next_there c.args.mask c.loop-row.row c.loop-row.i c.args.state.now c.loop-row.invariant.0 c.loop-row.invariant.1 c.requires.1 c.loop-row.invariant.3 (sym c.in_mask.ensures ∙ c.loop-row-test.true)))

pub loop-row-smaller : goal.loop-row-smaller
loop-row-smaller c = omega (arith, next_there c.args.mask c.loop-row.row c.loop-row.i c.args.state.now c.loop-row.invariant.0 c.loop-row.invariant.1 c.requires.1 c.loop-row.invariant.3 (sym c.in_mask.ensures ∙ c.loop-row-test.true))

pub loop-row-preserved : goal.loop-row-preserved
loop-row-preserved c =
    let i = c.loop-row.i in
    (omega (arith, next_there c.args.mask c.loop-row.row c.loop-row.i c.args.state.now c.loop-row.invariant.0 c.loop-row.invariant.1 c.requires.1 c.loop-row.invariant.3 (sym c.in_mask.ensures ∙ c.loop-row-test.true)), c.row_at-row-in-loop-row.ensures.0, c.row_at-row-in-loop-row.ensures.1, rw (add-one i) (passed c.args.mask c.loop-row.row c.loop-row.i c.args.state.now c.loop-row.invariant.0 c.loop-row.invariant.1 c.requires.1 c.loop-row.invariant.3 (sym c.in_mask.ensures ∙ c.loop-row-test.true)))
