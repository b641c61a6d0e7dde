-- Each turn adds one slot.
use Rattle.std.proofs.Common.{◌≡◌, refl, arith, ◌∙◌, ap, ◌+◌, ℕ}
use Rattle.fullest.specs.Keys.{above}
use Rattle.soundness.proofs.ListLaws.{one_most, above-turn}
use Rattle.soundness.proofs.list.count.Goals as goal

pub loop-s-init : goal.loop-s-init
unfolding above
loop-s-init g c = (omega arith, λ f limit same. refl)

pub loop-s-preserved : goal.loop-s-preserved
loop-s-preserved g c = (
  omega (arith, one_most c.test.result),
  λ f limit same. ap (λ (one : ℕ). c.loop-s.n + one) c.from-n.ensures ∙ above-turn f limit c.loop-s.s c.loop-s.n c.test.result (c.loop-s.invariant.1 f limit same) (same _ (omega arith) _ c.test.ensures),
)

pub returns : goal.returns
returns g c f limit same = let e : c.loop-s.s ≡ 64 = omega arith in rw e at (c.loop-s.invariant.1 f limit same)
