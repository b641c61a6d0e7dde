-- The head, the rows, and an entry for each slot.
use native.Mathlib.Omega.{arith}
use Rattle.image.proofs.EntryLaws.{sound-total}
use Rattle.image.proofs.HeadLaws.{length-read}
use Rattle.image.proofs.writer.length_of.Goals as goal

pub overflow_mul-result-2 : goal.overflow_mul-result-2
overflow_mul-result-2 c = omega (arith, c.first_of-total.ensures, sound-total c.args.state.now c.requires)

pub overflow_add-result-6 : goal.overflow_add-result-6
overflow_add-result-6 c =
    omega (arith, c.first_of-total.ensures, sound-total c.args.state.now c.requires, c.row_count-count.ensures.1, c.args.version.known.1)

pub returns : goal.returns
returns c =
    omega (arith, c.first_of-total.ensures, c.row_count-count.ensures.0, length-read c.args.state.now c.requires c.args.version.number)
