-- The image, and then the mark.
use mathlib.Core.Path.{sym}
use native.Mathlib.Omega.{arith}
use Rattle.memory.specs.Reading.{state_of}
use Rattle.memory.proofs.OneMemory.{base-sound}
use Rattle.memory.proofs.SoundFits.{sound-fits}
use Rattle.image.specs.Image.{image_of}
use Rattle.image.proofs.EntryLaws.{sound-total}
use Rattle.image.proofs.HeadLaws.{count-few, length-read, stored_short, stored-given}
use Rattle.image.proofs.writer.park_on.Goals as goal

pub returns-then-image-size : goal.returns-then-image-size
returns-then-image-size c =
    let a = c.args in
    stored_short (image_of a.version.number (state_of a.state.now)) a.state.now a.image.now (omega (arith, c.if-image-size.true, c.length_of-size.ensures))

pub overflow_cast-result : goal.overflow_cast-result
overflow_cast-result c =
    let m = c.args.state.now in
    omega (arith, c.length_of-size.ensures, length-read m c.requires c.args.version.number, count-few m c.requires, sound-total m c.requires, c.args.version.known.1)

pub returns : goal.returns
returns c =
    let a = c.args in
    let m = a.state.now in
    let size = c.length_of-size in
    let M = base-sound m c.requires in
    stored-given (image_of a.version.number (state_of m)) m a.image.now (omega (arith, c.if-image-size.false, size.ensures)) size.result size.ensures c.put_image.ensures
    (c.park.ensures (state_of m) (sound-fits M.state) (sym M.bytes))
