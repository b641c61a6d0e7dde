-- The five parts are the five rules.
use Rattle.std.proofs.Common.{arith}
use mathlib.Core.Bool.{and-true as and-with-true}
use Rattle.memory.specs.Names as the
use Rattle.memory.specs.Layout.{place, lanes}
use Rattle.memory.specs.Reading.{byte_in}
use Rattle.soundness.specs.Check.{mark_rule, scan_rule}
use Rattle.soundness.proofs.NotesRead.{part-clear}
use Rattle.soundness.proofs.scan.Goals as goal

pub returns : goal.returns
unfolding scan_rule
returns c =
    let b = c.args.state.now in
    let spare = part-clear b (place the.nothing) (lanes the.nothing) {k = lanes the.nothing} (omega arith) (omega arith) c.at_most.ensures in
    rw (
      c.round_ok.ensures,
      c.to_visit_ok.ensures,
      c.deficits.ensures,
      spare,
      and-with-true (mark_rule (byte_in the.parked b 0)),
    )
