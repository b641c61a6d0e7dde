-- Zeros of the right length with the edition in its place are the fresh state's memory.
use Rattle.std.proofs.Common.{ℕ, List, set, sym, ap, ◌∙◌}
use Rattle.memory.specs.Names as the
use Rattle.memory.specs.Layout.{place}
use Rattle.uplink.proofs.Starting.{start-refused, start_none, start-given}
use Rattle.uplink.proofs.open.start.Goals as goal

pub returns-then-state-ne-LENGTH : goal.returns-then-state-ne-LENGTH
returns-then-state-ne-LENGTH c = start-refused c.args.edition c.args.state.now c.if-state-ne-LENGTH.true

pub returns-then-outside : goal.returns-then-outside
returns-then-outside c =
    let a = c.args in
    start_none a.edition a.state.now c.if-state-ne-LENGTH.false (sym c.outside.ensures ∙ c.if-outside.true)

pub returns : goal.returns
returns c =
    let a = c.args in
    start-given a.edition a.state.now _ c.if-state-ne-LENGTH.false (sym c.outside.ensures ∙ c.if-outside.false)
    (ap (λ (b : List ℕ). set b (place the.edition) a.edition) c.clear.ensures)
