-- Each turn looks at one slot, whose key is made of the bytes read; the greatest key below the limit is the first of those below it.
use mathlib.Core.Path.{◌≡◌, refl}
use native.Mathlib.Omega.{arith}
use Rattle.fullest.specs.Moved.{best_below}
use Rattle.fullest.proofs.BestLaws.{best_turn, best_slot}
use Rattle.fullest.proofs.keys.best_below.Goals as goal

pub loop-s-init : goal.loop-s-init
unfolding best_below
loop-s-init c = refl

pub loop-s-preserved : goal.loop-s-preserved
loop-s-preserved c = best_turn _ _ _ _ _ _ _ c.loop-s.invariant c.key_of-x.ensures c.if_below.ensures c.max-best.ensures

pub returns : goal.returns
returns c =
    let e : c.loop-s.s ≡ 64 = omega arith in
    best_slot c.args.state.now _ _ c.fits-state (rw e at c.loop-s.invariant)
