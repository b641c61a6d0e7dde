-- The base is lent, and what is left of it goes before the notes, which the call leaves as they were.
use Rattle.std.proofs.Common.{sym, rules}
use Rattle.memory.proofs.OneMemory.{memory-sound}
use Rattle.rules.specs.Calls.{close_call}
use Rattle.rules.proofs.Filling.{close_full}
use Rattle.uplink.proofs.Lending.{base-takes, notes-left}
use Rattle.uplink.proofs.close.close_noted.Goals as goal

pub unwrap-requires : goal.unwrap-requires
unwrap-requires c = search (rules, (memory-sound c.args.state.now c.requires.0).size)

pub close_in-requires : goal.close_in-requires
close_in-requires c =
    let front = rw c.unwrap.ensures at c.first_chunk_mut.ensures.cases in
    rw (sym front.same) at (base-takes c.args.state.now c.requires)

pub returns : goal.returns
returns c =
    let front = rw c.unwrap.ensures at c.first_chunk_mut.ensures.cases in
    notes-left c.args.state.now c.requires (close_call c.args.slot c.args.ticket)
    (λ d e. close_full (memory-sound c.args.state.now c.requires.0).state c.args.slot c.args.ticket e)
    (rw front.same at c.close_in.ensures)
