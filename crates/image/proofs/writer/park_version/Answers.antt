-- The checks in their order; then the base is lent, and what is left of it goes before the notes.
use mathlib.Core.Path.{◌≡◌, sym, ◌∙◌}
use mathlib.Core.Bool.{true, false}
use native.Mathlib.Omega.{arith}
use Rattle.std.proofs.Common.{rules}
use Rattle.memory.specs.Memory.{sound_bytes}
use Rattle.memory.specs.Reading.{state_of}
use Rattle.memory.proofs.OneMemory.{memory-sound, base_of_sound}
use Rattle.image.proofs.HeadLaws.{park_unsound, park_twice, park_left}
use Rattle.image.proofs.writer.park_version.Goals as goal

pub returns-then-not-check : goal.returns-then-not-check
returns-then-not-check c =
    let a = c.args in
    park_unsound a.version.number a.state.now a.image.now (sym c.check.ensures ∙ c.if-not-check.true)

pub is_parked-requires : goal.is_parked-requires
is_parked-requires c =
    let a = c.args in
    let sound : sound_bytes a.state.now ≡ true = sym c.check.ensures ∙ c.if-not-check.false in
    omega (arith, (memory-sound a.state.now sound).size)

pub returns-then-is_parked : goal.returns-then-is_parked
returns-then-is_parked c =
    let a = c.args in
    park_twice a.version.number a.state.now a.image.now (sym c.check.ensures ∙ c.if-not-check.false) (sym c.is_parked.ensures ∙ c.if-is_parked.true)

pub unwrap-requires : goal.unwrap-requires
unwrap-requires c =
    let m = c.args.state.now in
    let sound : sound_bytes m ≡ true = sym c.check.ensures ∙ c.if-not-check.false in
    search (rules, (memory-sound m sound).size)

pub park_on-requires : goal.park_on-requires
park_on-requires c =
    let m = c.args.state.now in
    let sound : sound_bytes m ≡ true = sym c.check.ensures ∙ c.if-not-check.false in
    let front = rw c.unwrap.ensures at c.first_chunk_mut.ensures.cases in
    rw (sym front.same) at (base_of_sound m sound)

pub returns : goal.returns
returns c =
    let a = c.args in
    let m = a.state.now in
    let sound : sound_bytes m ≡ true = sym c.check.ensures ∙ c.if-not-check.false in
    let open_yet : (state_of m).parked ≡ false = sym c.is_parked.ensures ∙ c.if-is_parked.false in
    let front = rw c.unwrap.ensures at c.first_chunk_mut.ensures.cases in
    park_left a.version.number m a.image.now sound open_yet (rw front.same at c.park_on.ensures)
