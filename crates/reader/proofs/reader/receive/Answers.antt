-- The version, then the base built and its notes, then its own image: each in its turn shows that the image is bad, and all three that it is good.
use Rattle.std.proofs.Common.{◌≡◌, true, sym, ◌∙◌}
use Rattle.memory.specs.Memory.{noted, sound_bytes}
use Rattle.memory.proofs.OneMemory.{base_of_sound, base-stands}
use Rattle.reader.proofs.NotesLaws.{zeros-base, base-written, built_noted}
use Rattle.reader.proofs.ReaderLaws.{received-unknown, received-unsound, received-sound}
use Rattle.reader.proofs.reader.receive.Goals as goal

pub returns-in_default : goal.returns-in_default
returns-in_default c =
    let a = c.args in
    received-unknown a.image.now c.byte_at.result c.byte_at.ensures a.memory.now c.in_default.ensures

pub decode-requires : goal.decode-requires
decode-requires c =
    let front = rw c.unwrap.ensures at c.first_chunk_mut.ensures.cases in
    front.same ∙ zeros-base c.args.memory.now c.requires

pub note_all-requires : goal.note_all-requires
note_all-requires c = base-written c.args.memory.now c.requires c.decode.new.memory c.decode.ensures.same_length

pub is_image-requires : goal.is_image-requires
is_image-requires c =
    let sound : sound_bytes c.note_all.new.memory ≡ true = sym c.check.ensures ∙ c.if-check.true in
    let front = rw c.unwrap-then-check.ensures at c.first_chunk.ensures.cases in
    rw (sym front.same) at (base_of_sound c.note_all.new.memory sound)

pub returns-then-check : goal.returns-then-check
returns-then-check c =
    let a = c.args in
    let m = a.memory.now in
    let version = c.in-Some.version.number in
    let built = c.decode in
    let whole = c.note_all in
    let sound : sound_bytes whole.new.memory ≡ true = sym c.check.ensures ∙ c.if-check.true in
    let front = rw c.unwrap-then-check.ensures at c.first_chunk.ensures.cases in
    received-sound a.image.now version (c.in-Some.ensures.0 ∙ c.byte_at.ensures) whole.new.memory
    (built_noted a.image.now built.new.memory (noted m) whole.new.memory version built.ensures.same_length built.ensures.built whole.ensures)
    (rw (sym c.in-Some.ensures.0) at c.in-Some.ensures.1)
    sound c.is_image.result (rw (front.same, base-stands whole.new.memory sound) at c.is_image.ensures)

pub returns-else-check : goal.returns-else-check
returns-else-check c =
    let a = c.args in
    let m = a.memory.now in
    let version = c.in-Some.version.number in
    let built = c.decode in
    let whole = c.note_all in
    rw c.if-check.false (received-unsound a.image.now version (c.in-Some.ensures.0 ∙ c.byte_at.ensures) whole.new.memory
    (built_noted a.image.now built.new.memory (noted m) whole.new.memory version built.ensures.same_length built.ensures.built whole.ensures)
    (sym c.check.ensures ∙ c.if-check.false))
