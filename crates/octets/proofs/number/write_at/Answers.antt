-- At each turn the lowest byte left is written.
use Rattle.std.proofs.Common.{arith, ◌≡◌}
use Rattle.octets.proofs.NumberLaws.{put_none, put_step, rest_step}
use Rattle.octets.proofs.number.write_at.Goals as goal

pub loop-k-init : goal.loop-k-init
loop-k-init g c = (put_none (g.P.Places.at c.args.places) c.args.b.now (g.N.Number.value c.args.v), omega (arith, c.wide-rest.ensures))

pub loop-k-preserved : goal.loop-k-preserved
loop-k-preserved g c =
    let v = g.N.Number.value c.args.v in
    (rw (c.loop-k.invariant.0, c.loop-k.invariant.1, c.place.ensures) (put_step (g.P.Places.at c.args.places) c.loop-k.k c.args.b.now v), rw c.loop-k.invariant.1 (rest_step v c.loop-k.k))

pub returns : goal.returns
returns g c =
    let all : c.loop-k.k ≡ g.N.Number.BYTES = omega (arith, c.loop-k-test.false, c.loop-k.auto.k-end, c.BYTES-k-end.ensures) in
    rw (← all) c.loop-k.invariant.0
