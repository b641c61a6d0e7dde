-- At each turn the rows passed are written.
use Rattle.std.proofs.Common.{sym, ap, ◌∙◌, arith, take_all, length-take-le, take-suc, add-one, ℕ, take}
use Rattle.octets.proofs.WroteLaws.{nothing_wrote, then_wrote, wrote_as}
use Rattle.image.proofs.writer.put_rows.Goals as goal

pub loop-row-init : goal.loop-row-init
loop-row-init c = nothing_wrote c.args.w.now (omega arith)

pub byte-requires : goal.byte-requires
byte-requires c =
    let l = c.loop-row in
    omega (arith, l.invariant.written.place, l.invariant.same_length, length-take-le l.row-index c.args.rows.now (omega arith))

pub loop-row-preserved : goal.loop-row-preserved
loop-row-preserved c =
    let rows = c.args.rows.now in
    let l = c.loop-row in
    wrote_as (sym (ap (λ (n : ℕ). take n rows) (add-one l.row-index) ∙ take-suc rows l.row-index 0 c.loop-row-test.true)) (then_wrote l.invariant c.byte.ensures)

pub returns : goal.returns
returns c =
    let l = c.loop-row in
    wrote_as (take_all l.row-index c.args.rows.now c.loop-row-test.false) l.invariant
