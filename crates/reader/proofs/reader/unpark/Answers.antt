-- The length, then the image, and only then the lent bytes.
use Rattle.std.proofs.Common.{◌≡◌, true, false}
use Rattle.reader.proofs.ReaderLaws.{read-wrong, read-bad, read_good}
use Rattle.reader.proofs.reader.unpark.Goals as goal

pub returns-then-state-ne-LENGTH : goal.returns-then-state-ne-LENGTH
returns-then-state-ne-LENGTH c =
    let a = c.args in
    read-wrong a.image.now a.state.now c.if-state-ne-LENGTH.true

pub returns-then-not-receive : goal.returns-then-not-receive
returns-then-not-receive c =
    let a = c.args in
    let e : c.receive.result ≡ false = c.if-not-receive.true in
    read-bad a.image.now a.state.now c.if-state-ne-LENGTH.false (rw e at c.receive.ensures)

pub returns : goal.returns
returns c =
    let a = c.args in
    let e : c.receive.result ≡ true = c.if-not-receive.false in
    rw c.copy_from_slice.ensures.after (read_good a.image.now a.state.now c.if-state-ne-LENGTH.false (rw e at c.receive.ensures))
