-- Each number is written in its field, one after the other.
use Prim.Native.Nat.{◌^◌, ◌<◌}
use native.Mathlib.Omega.{arith}
use mathlib.Core.Path.{refl, ap}
use Rattle.memory.specs.Names as the
use Rattle.memory.specs.Layout.{width}
use Rattle.memory.specs.Fits.{SlotFits}
use Rattle.memory.specs.declared.heads.Head.{Head}
use Rattle.memory.proofs.HeadEdits.{channel-stored}
use Rattle.memory.proofs.heads.store_head.Goals as goal

pub returns : goal.returns
returns c =
    let h = c.args.head in
    let ticket-low : h.ticket < 256 ^ width the.ticket = omega arith in
    let weight-low : h.weight < 256 ^ width the.weight = omega arith in
    let deficit-low : h.deficit < 256 ^ width the.deficit = omega arith in
    let serial-low : h.serial < 256 ^ width the.serial = omega arith in
    λ s x F memory same records.
    let ticket : x.ticket < 256 ^ width the.ticket = omega (arith, ticket-low, ap (λ (n : Head). n.ticket) same) in
    let weight : x.weight < 256 ^ width the.weight = omega (arith, weight-low, ap (λ (n : Head). n.weight) same) in
    let deficit : x.deficit < 256 ^ width the.deficit = omega (arith, deficit-low, ap (λ (n : Head). n.deficit) same) in
    let serial : x.serial < 256 ^ width the.serial = omega (arith, serial-low, ap (λ (n : Head). n.serial) same) in
    let fits : SlotFits x
    = record {
      ticket-fits = ticket;
      weight-fits = weight;
      deficit-fits = deficit;
      serial-fits = serial;
      few = rw records (F.slot c.args.slot).few;
      records = rw records (F.slot c.args.slot).records;
    } in
    channel-stored c.args.slot x F memory c.requires fits records
    (rw same at c.write.ensures) (rw same at c.write-2.ensures) (rw same at c.write-3.ensures) (rw same at c.write-4.ensures) (rw same refl)
