-- The row is a slot, so the weight read is that of a channel.
use mathlib.Core.Path.{sym, ap, ◌∙◌}
use Rattle.rules.specs.State.{weights}
use Rattle.memory.specs.Reading.{state_of}
use Rattle.memory.proofs.SearchLaws.{weights-at}
use Rattle.memory.proofs.search.weight_of_row.Goals as goal

pub returns : goal.returns
returns c =
    let b = c.args.state.now in
    let row = c.row_at-row.ensures in
    c.from.ensures ∙ c.load_weight.ensures ∙ sym (weights-at b c.row_at-row.result row.1) ∙ ap (weights (state_of b).channels) row.0
