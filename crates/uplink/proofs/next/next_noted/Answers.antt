-- The base is lent; what is left of it goes before the notes, which are then right for the state that the call leaves.
use Rattle.std.proofs.Common.{sym, rules}
use Rattle.memory.proofs.OneMemory.{memory-sound}
use Rattle.uplink.proofs.Lending.{base-takes}
use Rattle.uplink.proofs.Noting.{sent-fits, next-noted-left}
use Rattle.uplink.proofs.next.next_noted.Goals as goal

pub unwrap-requires : goal.unwrap-requires
unwrap-requires g c = search (rules, (memory-sound c.args.state.now c.requires.0).size)

pub next_in-told-requires : goal.next_in-told-requires
next_in-told-requires g c =
    let front = rw c.unwrap.ensures at c.first_chunk_mut.ensures.cases in
    rw (sym front.same) at (base-takes c.args.state.now c.requires)

pub note_sent-requires : goal.note_sent-requires
note_sent-requires g c =
    let front = rw c.unwrap.ensures at c.first_chunk_mut.ensures.cases in
    sent-fits c.args.state.now c.requires c.next_in-told.result c.next_in-told.new.state (rw front.same at c.next_in-told.ensures)

pub returns : goal.returns
returns g c =
    let front = rw c.unwrap.ensures at c.first_chunk_mut.ensures.cases in
    next-noted-left c.args.state.now c.requires c.next_in-told.result c.next_in-told.new.state c.note_sent.new.state (rw front.same at c.next_in-told.ensures) c.note_sent.ensures
