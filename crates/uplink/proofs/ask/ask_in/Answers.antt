-- What the lookup finds in the base is refused as the rules refuse it, or is the channel whose numbers are answered; its bytes stand in the notes.
use Rattle.std.proofs.Common.{sym, ap, ◌∙◌, leb-false, rules}
use Rattle.rules.specs.Numbers.{slots}
use Rattle.memory.proofs.OneMemory.{memory-sound}
use Rattle.uplink.specs.Found.{refusal_of}
use Rattle.uplink.proofs.Lending.{base-takes}
use Rattle.uplink.proofs.Asking.{ask_unnamed, ask_answered}
use Rattle.uplink.proofs.ask.ask_in.Goals as goal

pub unwrap-base-requires : goal.unwrap-base-requires
unwrap-base-requires c = search (rules, (memory-sound c.args.state.now c.requires.0).size)

pub lookup-found-requires : goal.lookup-found-requires
lookup-found-requires c =
    let front = rw c.unwrap-base.ensures at c.first_chunk.ensures.cases in
    rw (sym front.same) at (base-takes c.args.state.now c.requires).0

pub returns-in_default : goal.returns-in_default
returns-in_default c =
    let a = c.args in
    let front = rw c.unwrap-base.ensures at c.first_chunk.ensures.cases in
    rw (c.refusal_of.ensures ∙ ap refusal_of c.in_default.is) (ask_unnamed a.state.now a.slot a.ticket c.requires _ (rw front.same at c.in_default.ensures))

pub waiting_of-waiting-requires : goal.waiting_of-waiting-requires
waiting_of-waiting-requires c =
    let channel = c.in-Ok.ensures in
    leb-false slots _ channel.0

pub bytes_of-bytes-requires : goal.bytes_of-bytes-requires
bytes_of-bytes-requires c =
    let channel = c.in-Ok.ensures in
    ((memory-sound c.args.state.now c.requires.0).size, leb-false slots _ channel.0)

pub returns : goal.returns
returns c =
    let front = rw c.unwrap-base.ensures at c.first_chunk.ensures.cases in
    let channel = rw front.same at c.in-Ok.ensures in
    rw (c.from.ensures, c.from-2.ensures, c.from-3.ensures)
    (ask_answered c.args.state.now c.args.slot c.args.ticket c.requires c.in-Ok.head channel
    c.waiting_of-waiting.result c.bytes_of-bytes.result
    (rw front.same at c.waiting_of-waiting.ensures.0) c.bytes_of-bytes.ensures)
