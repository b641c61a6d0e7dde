-- Each way out of the check is the answer that the rules looked at so far give, and the rules of the check are soundness.
use Rattle.std.proofs.Common.{◌≡◌, sym, ◌∙◌, arith}
use Rattle.rules.specs.Numbers.{slots}
use Rattle.memory.specs.Reading.{first_at}
use Rattle.soundness.proofs.NotesChecked.{counted, parts}
use Rattle.soundness.proofs.NotesRead.{total-read}
use Rattle.soundness.proofs.whole_ok.Goals as goal

pub returns-else-slots_ok : goal.returns-else-slots_ok
returns-else-slots_ok c =
    let slots-fail = sym (rw c.base_of-base.ensures at c.slots_ok.ensures) ∙ c.if-slots_ok.false in
    c.if-slots_ok.false ∙ rw slots-fail at (parts c.args.state.now c.fits-state c.told-state)

pub sums-requires : goal.sums-requires
sums-requires c =
    let b = c.args.state.now in
    let slots-pass = sym (rw c.base_of-base.ensures at c.slots_ok.ensures) ∙ c.if-slots_ok.true in
    counted b c.fits-state c.told-state slots-pass

pub returns-else-sums : goal.returns-else-sums
returns-else-sums c =
    let b = c.args.state.now in
    let slots-pass = sym (rw c.base_of-base.ensures at c.slots_ok.ensures) ∙ c.if-slots_ok.true in
    c.if-sums.false ∙ rw (slots-pass, sym c.sums.ensures ∙ c.if-sums.false) at (parts b c.fits-state c.told-state)

pub rest_ok-requires : goal.rest_ok-requires
rest_ok-requires c =
    let b = c.args.state.now in
    let total : c.from-total.result ≡ first_at b slots = total-read b _ c.told-state c.base_of-base.ensures (c.from-total.ensures ∙ c.total_of.ensures) in
    let slots-pass = sym (rw c.base_of-base.ensures at c.slots_ok.ensures) ∙ c.if-slots_ok.true in
    ((c.from-total.ensures ∙ c.total_of.ensures), omega (arith, (counted b c.fits-state c.told-state slots-pass).few))

pub returns-else-rest_ok : goal.returns-else-rest_ok
returns-else-rest_ok c =
    let b = c.args.state.now in
    let slots-pass = sym (rw c.base_of-base.ensures at c.slots_ok.ensures) ∙ c.if-slots_ok.true in
    let rest-fail = sym (rw c.base_of-base.ensures at c.rest_ok.ensures) ∙ c.if-rest_ok.false in
    c.if-rest_ok.false ∙ rw (slots-pass, sym c.sums.ensures ∙ c.if-sums.true, rest-fail) at (parts b c.fits-state c.told-state)

pub returns-then-rest_ok : goal.returns-then-rest_ok
returns-then-rest_ok c =
    let b = c.args.state.now in
    let slots-pass = sym (rw c.base_of-base.ensures at c.slots_ok.ensures) ∙ c.if-slots_ok.true in
    let rest-pass = sym (rw c.base_of-base.ensures at c.rest_ok.ensures) ∙ c.if-rest_ok.true in
    c.fullest_ok.ensures ∙ rw (slots-pass, sym c.sums.ensures ∙ c.if-sums.true, rest-pass) at (parts b c.fits-state c.told-state)
