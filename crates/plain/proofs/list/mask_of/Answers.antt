-- The mask is that of the rows passed, from the last on; the next row is added to it where it has a mark.
use Rattle.std.proofs.Common.{◌≡◌, ◌-◌, suc, sym, refl, ◌∙◌, arith, eq-eqb, ne_eqb}
use Rattle.memory.specs.Reading.{state_of}
use Rattle.memory.proofs.SearchLaws.{rows-length}
use Rattle.plain.proofs.MarkLaws.{mask-none-left, mask-turn}
use Rattle.plain.proofs.list.mask_of.Goals as goal

pub loop-row-init : goal.loop-row-init
loop-row-init c =
    let b = c.args.state.now in
    sym (mask-none-left c.args.list.now (state_of b).rows c.row_count-row.result (omega (arith, rows-length b, c.row_count-row.ensures.0)))

pub loop-row-preserved-then-list-row-eq1 : goal.loop-row-preserved-then-list-row-eq1
loop-row-preserved-then-list-row-eq1 c =
    let l = c.loop-row in
    let b = c.args.state.now in
    let next : suc (l.row - 1) ≡ l.row = omega arith in
    mask-turn c.args.list.now (state_of b).rows (l.row - 1) {y = l.mask} (omega (arith, rows-length b, c.row_count-row.ensures.0)) c.row_at-slot.ensures.0 (rw next l.invariant)
    (c.with_slot-mask.ensures ∙ rw (eq-eqb _ 1 c.if-list-row-eq1.true) refl)

pub loop-row-preserved : goal.loop-row-preserved
loop-row-preserved c =
    let l = c.loop-row in
    let b = c.args.state.now in
    let next : suc (l.row - 1) ≡ l.row = omega arith in
    mask-turn c.args.list.now (state_of b).rows (l.row - 1) {y = l.mask} (omega (arith, rows-length b, c.row_count-row.ensures.0)) c.row_at-slot.ensures.0 (rw next l.invariant)
    (rw (ne_eqb _ 1 c.if-list-row-eq1.false) refl)
