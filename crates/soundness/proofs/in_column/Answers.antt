-- The slots looked at and those left make up the mask; each turn looks at the lowest that is left.
use Rattle.std.proofs.Common.{refl, arith}
use Rattle.bits.proofs.LowestLaws.{lowest-less}
use Rattle.soundness.proofs.MaskSlots.{in_column-turn, in_column-end}
use Rattle.soundness.proofs.in_column.Goals as goal

pub loop-left-init : goal.loop-left-init
loop-left-init c = refl

pub loop-left-smaller : goal.loop-left-smaller
loop-left-smaller c = omega (arith, c.without_lowest-left.ensures, lowest-less c.loop-left.left (omega arith))

pub loop-left-preserved : goal.loop-left-preserved
loop-left-preserved c =
    let start = c.loop-left in
    let low = c.lowest_in-s.ensures in
    in_column-turn _ _ start.ok _ _ _ _ _ _ start.invariant (omega arith) low.0 low.1
    c.load_weight.ensures c.is_row_of-ok.ensures c.without_lowest-left.ensures

pub returns : goal.returns
returns c = in_column-end _ _ _ _ _ c.loop-left.invariant c.loop-left-test.false
