-- The first k bytes of the run have come down by one; each turn moves the byte behind them.
use mathlib.Core.Path.{◌≡◌, sym}
use native.Mathlib.Omega.{arith}
use Rattle.octets.proofs.SlideLaws.{slid-none, slid-down-turn}
use Rattle.octets.proofs.slide.down_by_one.Goals as goal

pub loop-k-init : goal.loop-k-init
loop-k-init c = sym (slid-none _ _ _)

pub loop-k-preserved : goal.loop-k-preserved
loop-k-preserved c =
    let l = c.loop-k in
    rw l.invariant (slid-down-turn c.args.i l.k c.args.b.now (omega (arith, c.loop-k-test.true, c.requires)))

pub returns : goal.returns
returns c =
    let l = c.loop-k in
    let e : l.k ≡ c.args.n = omega (arith, c.loop-k-test.false, l.auto.k-end) in
    rw e at l.invariant
