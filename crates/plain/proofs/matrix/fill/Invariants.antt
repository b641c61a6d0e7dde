-- Each turn sets one row of the matrix, and those before it stay.
use Rattle.rules.specs.State.{weights}
use Rattle.memory.specs.Reading.{state_of}
use Rattle.plain.specs.Matrix.{Marked}
use Rattle.plain.proofs.matrix.fill.Given as goal

abbrev pub invariant-loop-row : goal.invariant-loop-row
invariant-loop-row l = Marked (weights (state_of l.state).channels) (state_of l.state).rows l.row l.matrix
