-- At each turn the numbers passed are written.
use Rattle.std.proofs.Common.{sym, ap, take_all, arith}
use Rattle.octets.proofs.WroteLaws.{nothing_wrote, then_wrote, wrote_as}
use Rattle.text.specs.Commands.{spaced}
use Rattle.text.proofs.SpacedLaws.{spaced-next, spaced-room}
use Rattle.text.proofs.writing.put_numbers.Goals as goal

pub loop-n-init : goal.loop-n-init
loop-n-init c = nothing_wrote c.args.w.now (omega (arith, c.requires))

pub put_spaced-requires : goal.put_spaced-requires
put_spaced-requires c =
    let W = c.loop-n.invariant in
    omega (arith, spaced-room c.args.ns.now c.loop-n.n-index c.loop-n-test.true, W.written.place, W.same_length, c.requires)

pub loop-n-preserved : goal.loop-n-preserved
loop-n-preserved c =
    wrote_as (sym (spaced-next c.args.ns.now c.loop-n.n-index c.loop-n-test.true)) (then_wrote c.loop-n.invariant c.put_spaced.ensures)

pub returns : goal.returns
returns c = wrote_as (ap spaced (take_all c.loop-n.n-index c.args.ns.now (omega arith))) c.loop-n.invariant
