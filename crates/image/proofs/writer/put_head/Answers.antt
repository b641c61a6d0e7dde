-- The numbers of the head are read off the memory and laid together.
use Rattle.std.proofs.Common.{ap, arith}
use Rattle.memory.specs.Reading.{state_of}
use Rattle.image.specs.Parts.{laid}
use Rattle.octets.proofs.WroteLaws.{wrote_as}
use Rattle.image.proofs.PartLaws.{part-is}
use Rattle.image.proofs.HeadLaws.{length-read, head-is}
use Rattle.image.proofs.writer.put_head.Goals as goal

pub overflow_sub-size : goal.overflow_sub-size
overflow_sub-size c =
    omega (arith, length-read c.args.state.now c.requires.0 c.args.version.number, c.requires.1)

pub put_parts-requires : goal.put_parts-requires
put_parts-requires c =
    omega (arith, length-read c.args.state.now c.requires.0 c.args.version.number, c.requires.1, c.requires.2, c.wide.ensures)

pub returns : goal.returns
unfolding state_of
returns c =
    let a = c.args in
    let m = a.state.now in
    let scan = c.load_scan-scan.ensures in
    let order = c.load_order-order.ensures in
    let count = c.row_count-count.ensures.0 in
    wrote_as (ap laid (head-is m c.requires.0 a.version.number a.size c.requires.1))
    (rw (part-is c.new.ensures, part-is c.new-2.ensures, part-is c.new-3.ensures, part-is c.new-4.ensures, part-is c.new-5.ensures, part-is c.new-6.ensures, part-is c.new-7.ensures, part-is c.new-8.ensures, part-is c.new-9.ensures, c.wide.ensures, c.visit_byte.ensures, scan, order, count) at c.put_parts.ensures)
