-- The base is lent, and what is left of it goes before the notes, which the call leaves as they were.
use Rattle.std.proofs.Common.{sym, rules}
use Rattle.memory.proofs.OneMemory.{memory-sound}
use Rattle.rules.specs.Calls.{open_call}
use Rattle.rules.proofs.Filling.{open_full}
use Rattle.uplink.proofs.Lending.{base-takes, notes-left}
use Rattle.uplink.proofs.open.open_noted.Goals as goal

pub unwrap-requires : goal.unwrap-requires
unwrap-requires c = search (rules, (memory-sound c.args.state.now c.requires.0).size)

pub open_in-requires : goal.open_in-requires
open_in-requires c =
    let front = rw c.unwrap.ensures at c.first_chunk_mut.ensures.cases in
    rw (sym front.same) at (base-takes c.args.state.now c.requires)

pub returns : goal.returns
returns c =
    let front = rw c.unwrap.ensures at c.first_chunk_mut.ensures.cases in
    notes-left c.args.state.now c.requires (open_call c.args.weight)
    (λ d e. open_full (memory-sound c.args.state.now c.requires.0).state c.args.weight e)
    (rw front.same at c.open_in.ensures)
