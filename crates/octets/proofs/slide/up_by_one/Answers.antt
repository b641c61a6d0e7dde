-- The last bytes of the run have moved up by one, k are still to move; each turn moves the last of these.
use Prim.Native.Nat.{◌+◌, ◌-◌}
use mathlib.Core.Path.{◌≡◌}
use native.Mathlib.Omega.{arith}
use Rattle.octets.proofs.SlideLaws.{slid-none, slid-up-turn}
use Rattle.octets.proofs.slide.up_by_one.Goals as goal

pub loop-k-init : goal.loop-k-init
loop-k-init c =
    let a = c.args in
    let e : a.n - a.n ≡ 0 = omega arith in
    rw (e, slid-none (a.i + a.n) (a.i + a.n + 1) a.b.now)

pub loop-k-preserved : goal.loop-k-preserved
loop-k-preserved c =
    let a = c.args in
    let l = c.loop-k in
    rw l.invariant (slid-up-turn a.i l.k a.n a.b.now (omega (arith, c.loop-k-test.true)) l.auto.k c.requires)

pub returns : goal.returns
returns c =
    let a = c.args in
    let l = c.loop-k in
    let e : l.k ≡ 0 = omega (arith, c.loop-k-test.false) in
    let f : a.i + 0 ≡ a.i = omega arith in
    let g : a.n - 0 ≡ a.n = omega arith in
    rw (e, f, g) at l.invariant
