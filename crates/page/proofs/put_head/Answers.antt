-- The two lines are written one after the other, with the term and the column found before.
use Prim.Native.Nat.{◌^◌, ◌<◌}
use native.Mathlib.Omega.{arith}
use lib.Pow.{pow_mono}
use Rattle.spread.specs.Limits.{columns}
use Rattle.visits.specs.declared.choose.Chosen.{Chosen}
use Rattle.page.specs.InNumbers.{Taken}
use Rattle.octets.proofs.WroteLaws.{then_wrote}
use Rattle.page.proofs.put_head.Goals as goal

position-fits : {x : Chosen} → Taken x → x.scan.position < 2 ^ columns
position-fits T = let wide = pow_mono T.order-low in omega (arith, wide, T.position-low)

pub term_shown-requires : goal.term_shown-requires
term_shown-requires c = position-fits c.requires.0

pub returns : goal.returns
returns c =
    then_wrote (rw (c.from-order.ensures, c.scanned-column.ensures, c.term_shown.ensures) at c.put_first.ensures) (rw (c.from-order.ensures, c.scanned-column.ensures) at c.put_second.ensures)
