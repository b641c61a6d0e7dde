-- How many records there are is read off the base.
use Rattle.std.proofs.Common.{◌≡◌, ◌∙◌}
use Rattle.rules.specs.Numbers.{slots}
use Rattle.memory.specs.Reading.{first_at}
use Rattle.soundness.specs.Notes.{Counted}
use Rattle.soundness.proofs.NotesRead.{total-read}
use Rattle.soundness.proofs.sums.sums.Goals as goal

pub few_ok-requires : goal.few_ok-requires
few_ok-requires c =
    let total : c.from-total.result ≡ first_at c.args.state.now slots = total-read c.args.state.now _ c.told-state c.base_of.ensures (c.from-total.ensures ∙ c.total_of.ensures) in
    let counted : Counted c.args.state.now c.from-total.result = rw total c.requires in
    (counted, c.if-total-le-FEW.true)

pub returns-then-total-le-FEW : goal.returns-then-total-le-FEW
returns-then-total-le-FEW c =
    let total : c.from-total.result ≡ first_at c.args.state.now slots = total-read c.args.state.now _ c.told-state c.base_of.ensures (c.from-total.ensures ∙ c.total_of.ensures) in
    rw total at c.few_ok.ensures

pub many_ok-requires : goal.many_ok-requires
many_ok-requires c =
    let total : c.from-total.result ≡ first_at c.args.state.now slots = total-read c.args.state.now _ c.told-state c.base_of.ensures (c.from-total.ensures ∙ c.total_of.ensures) in
    rw total c.requires

pub returns : goal.returns
returns c =
    let total : c.from-total.result ≡ first_at c.args.state.now slots = total-read c.args.state.now _ c.told-state c.base_of.ensures (c.from-total.ensures ∙ c.total_of.ensures) in
    rw total at c.many_ok.ensures
