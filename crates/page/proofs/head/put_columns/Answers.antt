-- At each turn the highest column that is left is written.
use Rattle.std.proofs.Common.{◌-◌, arith}
use Rattle.page.specs.Page.{column_text}
use Rattle.page.proofs.PutLaws.{begins, room_next, goes, ended}
use Rattle.page.proofs.PageLaws.{down-next, down-none}
use Rattle.page.proofs.head.put_columns.Goals as goal

pub loop-n-init : goal.loop-n-init
loop-n-init c = begins c.args.w.now _ (omega (arith, c.requires.1))

pub put_column-requires : goal.put_column-requires
put_column-requires c =
    let l = c.loop-n in
    let f = column_text c.args.column in
    (omega (arith, c.requires.0), room_next (f (l.n - 1)) _ (rw (down-next f l.n (omega arith)) at l.invariant) c.requires.1)

pub loop-n-preserved : goal.loop-n-preserved
loop-n-preserved c =
    let l = c.loop-n in
    let f = column_text c.args.column in
    goes (f (l.n - 1)) _ (rw (down-next f l.n (omega arith)) at l.invariant) c.put_column.ensures

pub returns : goal.returns
returns c = ended (rw (down-none (column_text c.args.column) c.loop-n.n (omega arith)) at c.loop-n.invariant)
