-- At each turn the spaces passed are written.
use Rattle.std.proofs.Common.{arith}
use Rattle.octets.proofs.WroteLaws.{nothing_wrote, then_wrote, wrote_as}
use Rattle.page.proofs.PutLaws.{gap_length, gap-next, gap_all, gap-none}
use Rattle.page.proofs.aligned.put_gap.Goals as goal

pub loop-init : goal.loop-init
loop-init c = record { wrote = wrote_as (gap-none c.args.n c.args.n (omega arith)) (nothing_wrote c.args.w.now (omega (arith, c.requires))); within = omega arith }

pub byte-requires : goal.byte-requires
byte-requires c =
    let W = c.loop.invariant.wrote in
    omega (arith, W.written.place, W.same_length, gap_length c.loop.counter c.args.n, c.requires)

pub loop-preserved : goal.loop-preserved
loop-preserved c =
    record { wrote = wrote_as (gap-next c.loop.counter c.args.n (omega arith)) (then_wrote c.loop.invariant.wrote c.byte.ensures); within = omega (arith, c.loop-test.true) }

pub returns : goal.returns
returns c = wrote_as (gap_all c.loop.counter c.args.width c.args.n (omega arith) c.loop.invariant.within) c.loop.invariant.wrote
