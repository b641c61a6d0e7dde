-- Each test of the lookup is a part of the first two checks, asked of the numbers that stand in the slot.
use Rattle.std.proofs.Common.{sym, refl, ◌∙◌, inr, arith}
use borrow.Author.Tests.{lt-leb}
use Rattle.rules.specs.Numbers.{slots}
use Rattle.rules.specs.State.{at}
use Rattle.memory.specs.Reading.{state_of}
use Rattle.uplink.specs.Found.{HeadIn}
use Rattle.uplink.proofs.Lending.{sound-holds}
use Rattle.uplink.proofs.Named.{kind-is, ticket_is, head-held, absent-free, absent-other, absent-not}
use Rattle.uplink.proofs.lookup.lookup.Goals as goal

pub load_head-head-requires : goal.load_head-head-requires
load_head-head-requires c = omega arith

pub returns-then-head-eq0 : goal.returns-then-head-eq0
returns-then-head-eq0 c =
    let loaded : HeadIn (state_of c.args.state.now) c.args.slot c.load_head-head.result = c.load_head-head.ensures ∙ head-held c.args.state.now (sound-holds _ c.requires) c.args.slot (omega arith) in
    let a = c.args in
    let d = at (state_of a.state.now).channels a.slot in
    let h = loaded in
    inr (lt-leb slots _ c.if-slot.false, absent-free d a.ticket (sym (kind-is d h) ∙ c.if-head-eq0.true), refl)

pub returns-then-head-ticket : goal.returns-then-head-ticket
returns-then-head-ticket c =
    let loaded : HeadIn (state_of c.args.state.now) c.args.slot c.load_head-head.result = c.load_head-head.ensures ∙ head-held c.args.state.now (sound-holds _ c.requires) c.args.slot (omega arith) in
    let a = c.args in
    let d = at (state_of a.state.now).channels a.slot in
    let h = loaded in
    inr (lt-leb slots _ c.if-slot.false, absent-other d a.ticket (λ e. c.if-head-ticket.true (ticket_is d h ∙ sym e)), refl)

pub returns : goal.returns
returns c =
    let loaded : HeadIn (state_of c.args.state.now) c.args.slot c.load_head-head.result = c.load_head-head.ensures ∙ head-held c.args.state.now (sound-holds _ c.requires) c.args.slot (omega arith) in
    let a = c.args in
    let d = at (state_of a.state.now).channels a.slot in
    let h = loaded in (
      lt-leb slots _ c.if-slot.false,
      absent-not d a.ticket (λ e. c.if-head-eq0.false (kind-is d h ∙ e)) (sym c.if-head-ticket.false ∙ ticket_is d h),
      h,
    )
