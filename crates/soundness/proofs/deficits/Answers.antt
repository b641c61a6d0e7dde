-- The three ways out: no visit, a visit of no slot, a visit of a slot.
use Rattle.std.proofs.Common.{◌≡◌, ◌+◌, ◌-◌, refl, arith}
use Rattle.rules.specs.Numbers.{slots}
use Rattle.soundness.specs.Check.{calm, deficit_highs}
use Rattle.soundness.proofs.CheckWays.{no_visit, no_slot, in_slot}
use Rattle.soundness.proofs.NotesRead.{part-calm}
use Rattle.soundness.proofs.deficits.Goals as goal

pub returns-then-visit-eq0 : goal.returns-then-visit-eq0
returns-then-visit-eq0 c = no_visit _ _ c.from-visit.ensures _ c.if-visit-eq0.true (part-calm _ deficit_highs slots (omega arith) refl c.at_most.ensures)

pub returns-then-v-ge-SLOTS : goal.returns-then-v-ge-SLOTS
returns-then-v-ge-SLOTS c = no_slot _ _ c.from-visit.ensures _ c.if-visit-eq0.false refl c.if-v-ge-SLOTS.true

pub returns : goal.returns
returns c =
    let b = c.args.state.now in
    let v = c.from-visit.result in
    let before : c.at_most-before.result ≡ calm b deficit_highs (v - 1) = part-calm b deficit_highs (v - 1) (omega arith) (omega arith) c.at_most-before.ensures in
    let behind : c.at_most-behind.result ≡ calm b (deficit_highs + v) (slots - v) = part-calm b (deficit_highs + v) (slots - v) (omega arith) (omega arith) c.at_most-behind.ensures in
    in_slot _ _ c.from-visit.ensures _ c.if-visit-eq0.false refl _ _ _ c.if-v-ge-SLOTS.false c.visited_ok-held.ensures before behind
