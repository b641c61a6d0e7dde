-- At each turn the parts passed are laid.
use Rattle.std.proofs.Common.{ap, arith, take_all}
use Rattle.image.specs.Parts.{laid}
use Rattle.octets.proofs.WroteLaws.{nothing_wrote, then_wrote, wrote_as}
use Rattle.image.proofs.LaidLaws.{laid-turn, laid-room}
use Rattle.image.proofs.parts.put_parts.Goals as goal

pub loop-part-init : goal.loop-part-init
unfolding laid
loop-part-init c = nothing_wrote c.args.w.now (omega arith)

pub put_number-requires : goal.put_number-requires
put_number-requires c =
    let l = c.loop-part in
    omega (arith, laid-room l.part-index c.args.parts.now c.loop-part-test.true, l.invariant.written.place, l.invariant.same_length, c.requires)

pub loop-part-preserved : goal.loop-part-preserved
loop-part-preserved c =
    let l = c.loop-part in
    wrote_as (laid-turn l.part-index c.args.parts.now c.loop-part-test.true) (then_wrote l.invariant c.put_number.ensures)

pub returns : goal.returns
returns c =
    let l = c.loop-part in
    wrote_as (ap laid (take_all l.part-index c.args.parts.now c.loop-part-test.false)) l.invariant
