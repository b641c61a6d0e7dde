-- The count and the five places are the line's.
use Prim.Native.Nat.{◌≤◌}
use mathlib.Core.Path.{ap}
use native.Mathlib.Omega.{arith}
use lib.ListN.{length}
use lib.Seq.{length-take-le}
use Rattle.rules.specs.Numbers.{listed}
use Rattle.fullest.proofs.NotingLaws.{stored}
use Rattle.fullest.proofs.line.Line.store.Goals as goal

pub returns : goal.returns
returns c =
    let line = c.self.inside in
    let few : line.count ≤ listed = omega (arith, ap length c.self.view_is, length-take-le line.count line.places (omega arith)) in
    stored c.args.state.now line.places c.args.self.now c.copy_from_slice.new.self line.count c.requires.0 (omega arith) few c.self.invariant.1 c.self.view_is c.copy_from_slice.ensures.after
