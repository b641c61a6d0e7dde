-- Two spaces, and the byte behind them: `1` exactly where the cell is 1.
use Rattle.std.proofs.Common.{refl}
use Rattle.std.proofs.lemmas.Bool.{ne_eqb}
use Rattle.octets.proofs.WroteLaws.{then_wrote, wrote_as}
use Rattle.page.proofs.rows.put_cell.Goals as goal
use Rattle.page.proofs.rows.put_cell.Goals.{then-cell-eq1, else-cell-eq1}

pub returns : goal.returns
returns c =
    let wrote = then_wrote c.bytes.ensures c.byte.ensures in
    elim c.if-cell-eq1.branch [
      | then-cell-eq1 x ↦ wrote_as (rw (x.byte-is, x.if-cell-eq1.true) refl) wrote
      | else-cell-eq1 x ↦ wrote_as (rw (x.byte-is, ne_eqb c.args.cell 1 x.if-cell-eq1.false) refl) wrote
    ]
