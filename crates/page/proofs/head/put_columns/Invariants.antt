-- At each turn the highest column that is left is written.
use Rattle.page.specs.Page.{column_text, down}
use Rattle.page.proofs.PutLaws.{Going}
use Rattle.page.proofs.head.put_columns.Given as goal

abbrev pub invariant-loop-n : goal.invariant-loop-n
invariant-loop-n l = Going l.fn.w (down (column_text l.column) l.order) (down (column_text l.column) l.n) l.w
