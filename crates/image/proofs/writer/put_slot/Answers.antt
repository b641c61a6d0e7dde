-- The parts of the entry, and behind them its records.
use Rattle.std.proofs.Common.{arith}
use Rattle.octets.proofs.WroteLaws.{then_wrote, wrote_as}
use Rattle.image.proofs.PartLaws.{length-laid, part-is}
use Rattle.image.proofs.EntryLaws.{parts_read, entry-is}
use Rattle.memory.specs.Head.{head_at}
use Rattle.memory.specs.Reading.{waiting_at}
use Rattle.image.proofs.writer.put_slot.Goals as goal

pub put_records-requires : goal.put_records-requires
put_records-requires c =
    let a = c.args in
    let head = c.load_head-head.ensures in
    let waiting = c.waiting_of-count.ensures.0 in
    let put = rw (part-is c.new.ensures, part-is c.new-2.ensures, part-is c.new-3.ensures, part-is c.new-4.ensures, part-is c.new-5.ensures, part-is c.new-6.ensures, part-is c.new-7.ensures, c.wide-wide.ensures, c.length_width.ensures, head, waiting) at c.put_parts.ensures in
    let size = length-laid (parts_read a.version.number (head_at a.state.now a.slot) (waiting_at a.state.now a.slot)) in
    (omega (arith, waiting, c.requires.3), omega (arith, waiting, put.written.place, put.same_length, size, c.requires.4))

pub returns : goal.returns
returns c =
    let a = c.args in
    let head = c.load_head-head.ensures in
    let waiting = c.waiting_of-count.ensures.0 in
    let put = rw (part-is c.new.ensures, part-is c.new-2.ensures, part-is c.new-3.ensures, part-is c.new-4.ensures, part-is c.new-5.ensures, part-is c.new-6.ensures, part-is c.new-7.ensures, c.wide-wide.ensures, c.length_width.ensures, head, waiting) at c.put_parts.ensures in
    wrote_as (entry-is a.state.now a.slot a.version.number c.requires.1) (then_wrote put (rw (waiting, c.requires.2) at c.put_records.ensures))
