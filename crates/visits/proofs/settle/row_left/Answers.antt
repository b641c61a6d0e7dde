-- The row gone and the visit ended, order and P are as they were.
use mathlib.Core.Path.{refl, sym, ◌∙◌}
use Rattle.visits.specs.Settle.{rowless}
use Rattle.visits.proofs.SettledState.{gone, gone-fits, leaves}
use Rattle.visits.proofs.settle.row_left.Goals as goal

pub row_gone-requires : goal.row_gone-requires
row_gone-requires c = leaves c.requires.0

pub returns : goal.returns
returns c =
    let i = c.args.chosen.slot in
    λ z none.
    c.store_scan.ensures (gone z) (rowless z.state i z.channel).scan (gone-fits z)
    (c.row_gone.ensures z.state z.channel z.fits z.memory z.apart z.head-is (sym z.left ∙ none))
    (rw z.scan-is refl)
