-- Each turn sets one row of the matrix, and those before it stay.
use Rattle.std.proofs.Common.{arith}
use native.Mathlib.Numerals.{add-one}
use Rattle.rules.specs.State.{weights}
use Rattle.memory.specs.Reading.{state_of}
use Rattle.plain.proofs.MatrixLaws.{marked-none, marked_turn}
use Rattle.plain.proofs.matrix.fill.Goals as goal

pub loop-row-init : goal.loop-row-init
loop-row-init c = marked-none _ _ _

pub loop-row-preserved : goal.loop-row-preserved
loop-row-preserved c =
    let l = c.loop-row in
    let b = c.args.state.now in
    let new = c.fill_row.ensures in
    rw (add-one l.row)
    (marked_turn (weights (state_of b).channels) (state_of b).rows l.row _ l.matrix _ (omega (arith, c.requires.few)) c.weight_of_row-weight.ensures l.invariant new.0 new.1)
