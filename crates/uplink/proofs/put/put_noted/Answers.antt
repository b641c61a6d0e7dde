-- The base is lent; what is left of it goes before the notes, which are then right for the state that the call leaves.
use Rattle.std.proofs.Common.{sym, rules}
use Rattle.memory.proofs.OneMemory.{memory-sound}
use Rattle.uplink.proofs.Lending.{base-takes}
use Rattle.uplink.proofs.Noting.{taken-fits, put-noted-left}
use Rattle.uplink.proofs.put.put_noted.Goals as goal

pub unwrap-base-requires : goal.unwrap-base-requires
unwrap-base-requires g c = search (rules, (memory-sound c.args.state.now c.requires.0).size)

pub put_on-told-requires : goal.put_on-told-requires
put_on-told-requires g c =
    let front = rw c.unwrap-base.ensures at c.first_chunk_mut.ensures.cases in
    rw (sym front.same) at (base-takes c.args.state.now c.requires)

pub note_taken-requires : goal.note_taken-requires
note_taken-requires g c =
    let a = c.args in
    let front = rw c.unwrap-base.ensures at c.first_chunk_mut.ensures.cases in
    taken-fits a.state.now c.requires a.slot a.ticket a.length a.reference c.ranges.reference.fits c.put_on-told.result c.put_on-told.new.state (rw front.same at c.put_on-told.ensures)

pub returns : goal.returns
returns g c =
    let a = c.args in
    let front = rw c.unwrap-base.ensures at c.first_chunk_mut.ensures.cases in
    put-noted-left a.state.now c.requires a.slot a.ticket a.length a.reference c.ranges.reference.fits c.put_on-told.result c.put_on-told.new.state c.note_taken.new.state (rw front.same at c.put_on-told.ensures) c.note_taken.ensures
