-- Head, rows and entries are written one after the other.
use Prim.Native.Nat.{◌+◌, ◌-◌}
use mathlib.Core.Path.{◌≡◌}
use native.Mathlib.Omega.{arith}
use Rattle.std.proofs.Common.{rules}
use lib.Seq.{length-take-le}
use Rattle.memory.specs.Reading.{row_count_at, state_of}
use Rattle.image.specs.Image.{head_parts}
use Rattle.octets.proofs.WroteLaws.{then_wrote, wrote_as}
use Rattle.image.proofs.PartLaws.{length-laid}
use Rattle.image.proofs.HeadLaws.{count-few, length-read, image-is}
use Rattle.image.proofs.writer.put_image.Goals as goal

pub put_rows-requires : goal.put_rows-requires
put_rows-requires c =
    let m = c.args.state.now in
    let v = c.args.version.number in
    let count = c.row_count-count.ensures.0 in
    let head = c.put_head.ensures in
    let size = length-take-le (0 + c.row_count-count.result - 0) m (omega (arith, count, count-few m c.requires.0)) in
    omega (arith, size, head.written.place, head.same_length, length-laid (head_parts v (state_of m)), count, length-read m c.requires.0 v, c.requires.1, c.requires.2)

pub put_slots-requires : goal.put_slots-requires
put_slots-requires c =
    let m = c.args.state.now in
    let v = c.args.version.number in
    let count = c.row_count-count.ensures.0 in
    let head = c.put_head.ensures in
    let rows = c.put_rows.ensures in
    let size = length-take-le (0 + c.row_count-count.result - 0) m (omega (arith, count, count-few m c.requires.0)) in (
      c.requires.0,
      omega (arith, size, head.written.place, head.same_length, rows.written.place, rows.same_length, length-laid (head_parts v (state_of m)), count, length-read m c.requires.0 v, c.requires.1, c.requires.2),
    )

pub returns : goal.returns
returns c =
    let m = c.args.state.now in
    let few : 0 + c.row_count-count.result - 0 ≡ row_count_at m = omega (arith, c.row_count-count.ensures.0) in
    let W = wrote_as (image-is m c.requires.0 c.args.version.number) (then_wrote c.put_head.ensures (then_wrote (rw few at c.put_rows.ensures) c.put_slots.ensures)) in
    search (rules, W.written, W.same_reference)
