-- Each test is a check of the rules, and the head stored makes the lowest slot an open one.
use Rattle.std.proofs.Common.{◌≡◌, false, refl, sym, ap, ◌∙◌, arith}
use Rattle.spread.specs.Limits.{heaviest, outside}
use Rattle.rules.specs.State.{at}
use Rattle.rules.specs.Calls.{opening, lowest}
use Rattle.memory.specs.declared.heads.Head.{Head}
use Rattle.memory.specs.Reading.{state_of}
use Rattle.memory.proofs.SearchLaws.{found_slot, found_none}
use Rattle.uplink.specs.Found.{HeadIn}
use Rattle.uplink.proofs.Lending.{sound_of, sound-holds}
use Rattle.uplink.proofs.Named.{ticket_is, head-held}
use Rattle.uplink.proofs.Opening.{opened-empty, opened-ticket, open_bad-weight, open_none-free, open_given}
use Rattle.uplink.proofs.open.open_in.Goals as goal

pub returns-then-outside : goal.returns-then-outside
returns-then-outside c =
    let a = c.args in
    open_bad-weight a.state.now a.weight c.requires.1 (sym c.outside.ensures ∙ c.if-outside.true)

pub returns-in_default : goal.returns-in_default
returns-in_default c =
    let weighed : outside 1 heaviest c.args.weight ≡ false = sym c.outside.ensures ∙ c.if-outside.false in
    let a = c.args in
    let i = lowest (state_of a.state.now).channels in
    open_none-free a.state.now a.weight c.requires.1 weighed i refl (found_none i (sym c.in_default.is ∙ c.lowest_of.ensures))

pub load_head-head-requires : goal.load_head-head-requires
load_head-head-requires c =
    let found = found_slot (lowest (state_of c.args.state.now).channels) c.in-Some.slot (sym c.in-Some.is ∙ c.lowest_of.ensures) in
    found.1

pub overflow_add-ticket : goal.overflow_add-ticket
overflow_add-ticket c =
    let slot = c.in-Some.slot in
    let found = found_slot (lowest (state_of c.args.state.now).channels) slot (sym c.in-Some.is ∙ c.lowest_of.ensures) in
    let loaded : HeadIn (state_of c.args.state.now) slot c.load_head-head.result = c.load_head-head.ensures ∙ head-held c.args.state.now (sound-holds _ c.requires.0) slot found.1 in
    record {
      fits = omega (arith, ap (λ (x : Head). x.ticket) loaded, opened-ticket (sound_of c.args.state.now c.requires.0) slot (sym found.0) found.1);
    }

pub store_head-requires : goal.store_head-requires
store_head-requires c =
    let found = found_slot (lowest (state_of c.args.state.now).channels) c.in-Some.slot (sym c.in-Some.is ∙ c.lowest_of.ensures) in
    found.1

pub returns : goal.returns
returns c =
    let weighed : outside 1 heaviest c.args.weight ≡ false = sym c.outside.ensures ∙ c.if-outside.false in
    let slot = c.in-Some.slot in
    let found = found_slot (lowest (state_of c.args.state.now).channels) slot (sym c.in-Some.is ∙ c.lowest_of.ensures) in
    let loaded : HeadIn (state_of c.args.state.now) slot c.load_head-head.result = c.load_head-head.ensures ∙ head-held c.args.state.now (sound-holds _ c.requires.0) slot found.1 in
    let H = sound-holds c.args.state.now c.requires.0 in
    let d = at (state_of c.args.state.now).channels slot in
    let ticket = ticket_is d loaded in
    open_given c.args.state.now c.args.weight c.requires.1 weighed slot (sym found.0)
    found.1 c.load_head-head.result.ticket ticket _
    (c.store_head.ensures _ (opening c.args.weight d) H.fits H.bytes (rw ticket)
    (sym (opened-empty (sound_of c.args.state.now c.requires.0) slot (sym found.0) found.1)))
