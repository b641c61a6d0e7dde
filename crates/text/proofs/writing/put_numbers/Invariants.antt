-- At each turn the numbers passed are written.
use Rattle.std.proofs.Common.{take}
use Rattle.octets.specs.Wrote.{Wrote}
use Rattle.text.specs.Commands.{spaced}
use Rattle.text.proofs.writing.put_numbers.Given as goal

abbrev pub invariant-loop-n : goal.invariant-loop-n
invariant-loop-n l = Wrote l.fn.w (spaced (take l.n-index l.ns)) l.w
