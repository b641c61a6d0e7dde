-- The fields before i are written.
use Rattle.std.proofs.Common.{◌≡◌, ◌*◌, take}
use Rattle.driver.specs.Words.{words}
use Rattle.driver.proofs.fields.give.Given as goal

abbrev pub invariant-loop-i : goal.invariant-loop-i
invariant-loop-i l = take (4 * l.i) l.answer ≡ words (take l.i l.fields)
