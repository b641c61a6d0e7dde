-- The mask is that of the column of the rows passed; the next row to the front is in it or not.
use Prim.Native.Nat.{ℕ, suc, ◌-◌}
use mathlib.Core.Path.{◌≡◌, sym, ap, ◌∙◌}
use mathlib.Core.Bool.{Bool, true, false}
use native.Mathlib.Omega.{arith}
use lib.Dec.{eqb}
use lib.ListN.{get_or}
use Rattle.bits.specs.Bit.{bit, with_bit}
use Rattle.rules.specs.State.{weights}
use Rattle.memory.specs.Reading.{state_of}
use Rattle.memory.proofs.SearchLaws.{rows-length, column_in, column-out, column-end}
use Rattle.memory.proofs.search.column_of.Goals as goal

pub loop-i-init : goal.loop-i-init
loop-i-init c =
    let b = c.args.state.now in
    sym (column-end (weights (state_of b).channels) (state_of b).rows c.args.column c.row_count-i.result (omega (arith, rows-length b, c.row_count-i.ensures.0)))

pub loop-i-preserved-then-in_mask : goal.loop-i-preserved-then-in_mask
loop-i-preserved-then-in_mask c =
    let l = c.loop-i in
    let a = c.args in
    let b = a.state.now in
    let f = weights (state_of b).channels in
    let rows = (state_of b).rows in
    let weight = c.from.ensures ∙ c.weight_of_row.ensures in
    let test : ℕ → Bool = λ w. eqb (bit a.column w) 1 in
    let has : test (f (get_or rows (l.i - 1) 0)) ≡ true
    = ap test (sym weight) ∙ sym c.in_mask.ensures ∙ c.if-in_mask.true in
    let next : suc (l.i - 1) ≡ l.i = omega (arith, c.loop-i-test.true) in
    let grown = column_in f rows a.column (l.i - 1) (omega (arith, rows-length b, l.auto.i, c.loop-i-test.true, c.row_count-i.ensures.0)) has in
    c.with_slot-mask.ensures
    ∙ ap (λ (r : ℕ). with_bit r l.mask) c.row_at.ensures.0
    ∙ ap (with_bit (get_or rows (l.i - 1) 0)) l.invariant
    ∙ sym (rw next at grown)

pub loop-i-preserved : goal.loop-i-preserved
loop-i-preserved c =
    let l = c.loop-i in
    let a = c.args in
    let b = a.state.now in
    let f = weights (state_of b).channels in
    let rows = (state_of b).rows in
    let weight = c.from.ensures ∙ c.weight_of_row.ensures in
    let test : ℕ → Bool = λ w. eqb (bit a.column w) 1 in
    let lacks : test (f (get_or rows (l.i - 1) 0)) ≡ false
    = ap test (sym weight) ∙ sym c.in_mask.ensures ∙ c.if-in_mask.false in
    let next : suc (l.i - 1) ≡ l.i = omega (arith, c.loop-i-test.true) in
    let same = column-out f rows a.column (l.i - 1) (omega (arith, rows-length b, l.auto.i, c.loop-i-test.true, c.row_count-i.ensures.0)) lacks in
    l.invariant ∙ sym (rw next at same)

pub returns : goal.returns
returns c =
    let l = c.loop-i in
    let e : l.i ≡ 0 = omega (arith, c.loop-i-test.false) in
    rw e at l.invariant
