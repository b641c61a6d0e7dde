-- Each turn is a term of the rules' scan, and the column that stops the loop has a row.
use Prim.Native.Nat.{◌-◌}
use Rattle.rules.specs.Next.{terms_most}
use Rattle.memory.specs.Reading.{state_of}
use Rattle.plain.proofs.ScanLaws.{After}
use Rattle.plain.proofs.scan.column_found.Given as goal

abbrev pub invariant-loop-ended : goal.invariant-loop-ended
invariant-loop-ended l = After l.state l.place

abbrev pub decreases-loop-ended : goal.decreases-loop-ended
decreases-loop-ended l = terms_most (state_of l.state) - l.place.terms
