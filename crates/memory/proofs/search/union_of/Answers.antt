-- Each turn adds one slot's weight, if it is a row, to the union of those before it.
use mathlib.Core.Path.{◌≡◌, refl}
use native.Mathlib.Omega.{arith}
use Rattle.rules.specs.Numbers.{slots}
use Rattle.memory.specs.Search.{union}
use Rattle.memory.proofs.UnionOfRows.{union-turn}
use Rattle.memory.proofs.search.union_of.Goals as goal

pub loop-s-init : goal.loop-s-init
unfolding union
loop-s-init c = refl

pub loop-s-preserved : goal.loop-s-preserved
loop-s-preserved c = union-turn _ _ _ _ _ c.loop-s.invariant c.load_weight.ensures c.row_weight-all.ensures

pub returns : goal.returns
returns c =
    let e : c.loop-s.s ≡ slots = omega (arith, c.loop-s-test.false, c.loop-s.auto.s-end) in
    rw e at c.loop-s.invariant
