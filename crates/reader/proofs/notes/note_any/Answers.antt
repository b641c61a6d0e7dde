-- Of no bytes there is nothing to write.
use Rattle.std.proofs.Common.{refl}
use Rattle.reader.proofs.NotesLaws.{noted-none}
use Rattle.reader.proofs.notes.note_any.Goals as goal

pub returns-else-bytes-ne0 : goal.returns-else-bytes-ne0
returns-else-bytes-ne0 c =
    let a = c.args in
    (λ f h N. noted-none f a.memory.now a.slot a.bytes c.if-bytes-ne0.false h N, refl)
