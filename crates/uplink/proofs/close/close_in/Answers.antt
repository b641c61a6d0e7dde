-- What the lookup finds is refused as the rules refuse it, or is the channel whose head is stored anew.
use Rattle.std.proofs.Common.{sym, refl, ap, ◌∙◌, leb-false}
use Rattle.rules.specs.Numbers.{slots}
use Rattle.rules.specs.State.{at}
use Rattle.rules.specs.Reply.{freed}
use Rattle.rules.specs.Calls.{draining}
use Rattle.memory.specs.Reading.{state_of}
use Rattle.uplink.specs.Found.{refusal_of}
use Rattle.uplink.proofs.Lending.{sound-holds}
use Rattle.uplink.proofs.Closing.{freed-head, draining-head, none-held, close_unnamed, close_again, close_freed, close_drained}
use Rattle.uplink.proofs.close.close_in.Goals as goal

pub returns-in_default : goal.returns-in_default
returns-in_default c =
    let a = c.args in
    rw (c.refusal_of.ensures ∙ ap refusal_of c.in_default.is) (close_unnamed a.state.now a.slot a.ticket c.requires.1 _ c.in_default.ensures)

pub returns-then-head-eq2 : goal.returns-then-head-eq2
returns-then-head-eq2 c =
    let channel = c.in-Ok.ensures in
    let a = c.args in
    close_again a.state.now a.slot a.ticket c.requires.1 c.in-Ok.head channel c.if-head-eq2.true

pub waiting_of-requires : goal.waiting_of-requires
waiting_of-requires c =
    let channel = c.in-Ok.ensures in
    leb-false slots _ channel.0

pub store_head-requires : goal.store_head-requires
store_head-requires c =
    let channel = c.in-Ok.ensures in
    leb-false slots _ channel.0

pub returns-then-waiting_of-eq0 : goal.returns-then-waiting_of-eq0
returns-then-waiting_of-eq0 c =
    let channel = c.in-Ok.ensures in
    let H = sound-holds _ c.requires.0 in
    let d = at (state_of c.args.state.now).channels c.args.slot in
    let w = c.waiting_of in
    let none = sym w.ensures.0 ∙ c.if-waiting_of-eq0.true in
    close_freed c.args.state.now c.args.slot c.args.ticket c.requires.1 c.in-Ok.head channel H
    c.if-head-eq2.false none _
    (c.store_head.ensures _ (freed d) H.fits H.bytes (freed-head d channel.2)
    (sym (none-held c.args.state.now c.args.slot c.args.ticket c.requires.1 c.in-Ok.head channel H
    c.if-head-eq2.false none)))

pub store_head-requires-2 : goal.store_head-requires-2
store_head-requires-2 c =
    let channel = c.in-Ok.ensures in
    leb-false slots _ channel.0

pub returns : goal.returns
returns c =
    let channel = c.in-Ok.ensures in
    let H = sound-holds _ c.requires.0 in
    let d = at (state_of c.args.state.now).channels c.args.slot in
    let w = c.waiting_of in
    close_drained c.args.state.now c.args.slot c.args.ticket c.requires.1 c.in-Ok.head channel H
    c.if-head-eq2.false (λ e. c.if-waiting_of-eq0.false (w.ensures.0 ∙ e)) _
    (c.store_head-2.ensures _ (draining d) H.fits H.bytes (draining-head d channel.2) refl)
