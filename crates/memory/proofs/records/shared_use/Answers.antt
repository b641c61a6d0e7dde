-- The sum so far is the use of the slots passed; 16 bits hold it, so that a compiler can add up eight at a time.
use mathlib.Core.Path.{◌≡◌, refl, ◌∙◌}
use native.Mathlib.Omega.{arith}
use Rattle.rules.specs.Numbers.{slots}
use Rattle.memory.specs.Search.{used_at}
use Rattle.memory.proofs.SharedUse.{used_turn}
use Rattle.memory.proofs.records.shared_use.Goals as goal

pub loop-s-init : goal.loop-s-init
unfolding used_at
loop-s-init c = (omega arith, refl)

pub loop-s-preserved : goal.loop-s-preserved
loop-s-preserved c =
    let beyond = c.from-sum.ensures ∙ c.saturating_sub.ensures in
    (omega (arith, c.loop-s.invariant.0, c.from-sum.ensures, c.saturating_sub.type_inv), used_turn _ _ _ _ c.loop-s.invariant.1 beyond)

pub returns : goal.returns
returns c =
    let e : c.loop-s.s ≡ slots = omega (arith, c.loop-s-test.false, c.loop-s.auto.s-end) in
    c.from.ensures ∙ rw e at c.loop-s.invariant.1
