-- At each turn the records passed are written.
use Rattle.std.proofs.Common.{◌+◌, ap, length, arith}
use Rattle.lists.specs.Tabs.{tab}
use Rattle.memory.specs.Reading.{record_at}
use Rattle.image.specs.Image.{records_bytes}
use Rattle.octets.proofs.WroteLaws.{nothing_wrote, then_wrote, wrote_as}
use Rattle.image.proofs.EntryLaws.{length-records_to, records-turn}
use Rattle.image.proofs.writer.put_records.Goals as goal

pub loop-i-init : goal.loop-i-init
unfolding records_bytes tab
loop-i-init c = nothing_wrote c.args.w.now (omega arith)

pub bytes-requires : goal.bytes-requires
bytes-requires c =
    let a = c.args in
    let l = c.loop-i in
    let size = length-records_to (λ n. record_at a.state.now (a.place + n)) l.i in
    omega (arith, ap length c.to_be_bytes.ensures, size, l.invariant.written.place, l.invariant.same_length, c.requires.1)

pub bytes-requires-in-loop-i : goal.bytes-requires-in-loop-i
bytes-requires-in-loop-i c =
    let a = c.args in
    let l = c.loop-i in
    let size = length-records_to (λ n. record_at a.state.now (a.place + n)) l.i in
    let first = c.bytes.ensures in
    omega (arith, ap length c.to_be_bytes.ensures, ap length c.to_be_bytes-in-loop-i.ensures, size, l.invariant.written.place, l.invariant.same_length, first.written.place, first.same_length, c.requires.1)

pub loop-i-preserved : goal.loop-i-preserved
loop-i-preserved c =
    let a = c.args in
    let l = c.loop-i in
    let cell = c.load_record-cell.ensures in
    let first = rw (c.to_be_bytes.ensures, cell) at c.bytes.ensures in
    let second = rw (c.to_be_bytes-in-loop-i.ensures, cell) at c.bytes-in-loop-i.ensures in
    wrote_as (records-turn (λ n. record_at a.state.now (a.place + n)) l.i) (then_wrote l.invariant (then_wrote first second))
