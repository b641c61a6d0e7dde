-- The row leaves, then the emptied channel's numbers are stored.
use mathlib.Core.Path.{sym, ◌∙◌}
use Rattle.rules.specs.Next.{emptied}
use Rattle.memory.specs.Edits.{row_gone}
use Rattle.memory.proofs.RowEdits.{fits-gone}
use Rattle.visits.proofs.HeadInNumbers.{emptied-waiting}
use Rattle.visits.proofs.settle.row_gone.Goals as goal

pub returns : goal.returns
returns c =
    let i = c.args.slot in
    λ s d F e apart h none.
    c.store_head.ensures (row_gone s i) (emptied d.kind d) (fits-gone i F apart) (c.leave_row.ensures s F e)
    (c.emptied-left.ensures d h) (emptied-waiting d.kind d ∙ sym none)
