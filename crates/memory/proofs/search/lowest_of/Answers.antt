-- The lowest slot of all is so many as were passed and the lowest of those that are left.
use Prim.Native.Nat.{◌<◌}
use mathlib.Core.Path.{◌≡◌, sym, ap, ◌∙◌}
use mathlib.Core.Bool.{true, false}
use native.Mathlib.Omega.{arith}
use native.Mathlib.Numerals.{add-one}
use lib.ListN.{length}
use Rattle.rules.specs.State.{at}
use Rattle.rules.specs.Calls.{can_open, lowest}
use Rattle.memory.specs.Reading.{state_of}
use Rattle.memory.proofs.SearchLaws.{channels-length, channels-at, lowest-here, lowest-later, lowest-end, slot_is, no_slot}
use Rattle.memory.proofs.search.lowest_of.Goals as goal

pub loop-slot-init : goal.loop-slot-init
loop-slot-init c = omega arith

pub returns-then-can_open : goal.returns-then-can_open
returns-then-can_open c =
    let l = c.loop-slot in
    let b = c.args.state.now in
    let cs = (state_of b).channels in
    let within : l.slot < length cs = omega (arith, channels-length b, c.loop-slot-test.true) in
    let here : can_open (at cs l.slot) ≡ true
    = ap can_open (channels-at b l.slot c.loop-slot-test.true) ∙ sym c.can_open.ensures ∙ c.if-can_open.true in
    let found : lowest cs ≡ l.slot = omega (arith, l.invariant, lowest-here cs l.slot within here) in
    slot_is (lowest cs) l.slot found c.loop-slot-test.true

pub loop-slot-preserved : goal.loop-slot-preserved
loop-slot-preserved c =
    let l = c.loop-slot in
    let b = c.args.state.now in
    let cs = (state_of b).channels in
    let within : l.slot < length cs = omega (arith, channels-length b, c.loop-slot-test.true) in
    let later : can_open (at cs l.slot) ≡ false
    = ap can_open (channels-at b l.slot c.loop-slot-test.true) ∙ sym c.can_open.ensures ∙ c.if-can_open.false in
    rw (add-one l.slot) (omega (arith, l.invariant, lowest-later cs l.slot within later))

pub returns : goal.returns
returns c =
    let l = c.loop-slot in
    let b = c.args.state.now in
    let cs = (state_of b).channels in
    no_slot (lowest cs) (omega (arith, l.invariant, lowest-end cs l.slot (omega (arith, channels-length b, c.loop-slot-test.false)), c.loop-slot-test.false))
