-- An image of another length is no base's own; one of that length is written anew beside the one that is looked at.
use Rattle.std.proofs.Common.{arith}
use Rattle.memory.specs.Reading.{state_of}
use Rattle.image.specs.Image.{image_of}
use Rattle.image.proofs.EntryLaws.{sound-total}
use Rattle.image.proofs.HeadLaws.{count-few, length-read}
use Rattle.reader.proofs.ReaderLaws.{other_length}
use Rattle.reader.proofs.reader.is_image.Goals as goal

pub returns-then-size-image : goal.returns-then-size-image
returns-then-size-image c =
    let a = c.args in
    other_length (image_of a.version.number (state_of a.memory.now)) a.image.now (λ e. omega (arith, c.if-size-image.true, c.length_of-size.ensures, e))

pub put_image-requires : goal.put_image-requires
put_image-requires c =
    let m = c.args.memory.now in
    let size = c.length_of-size.ensures in (
      c.requires,
      size,
      omega (arith, size, length-read m c.requires c.args.version.number, count-few m c.requires, sound-total m c.requires, c.args.version.known.1),
    )
