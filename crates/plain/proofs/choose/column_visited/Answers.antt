-- The marks are the column's rows, of which there is one, so there is a first mark.
use Prim.Native.Nat.{ℕ}
use Rattle.std.proofs.Common.{◌≡◌, false, List, [], get_or, sym, ap, ◌∙◌, subst}
use Rattle.lists.specs.Tests.{is_empty}
use Rattle.memory.specs.Reading.{state_of}
use Rattle.memory.proofs.SearchLaws.{rows-length}
use Rattle.plain.specs.Places.{Starts}
use Rattle.plain.specs.Marks.{marks_in}
use Rattle.plain.proofs.MarkLaws.{column_marks, some_first}
use Rattle.plain.proofs.choose.column_visited.Goals as goal

pub unwrap-row-requires : goal.unwrap-row-requires
unwrap-row-requires c =
    let P = c.requires in
    let b = c.args.state.now in
    let listed : is_empty (marks_in (get_or c.args.matrix.now c.from.result []) (state_of b).rows) ≡ false = rw c.from.ensures (ap is_empty (column_marks b _ P.1 P.2.low) ∙ P.2.found) in
    some_first _ (state_of b).rows _ (rows-length b ∙ sym c.row_count.ensures.0) _ c.first_marked.ensures listed

pub returns : goal.returns
returns c =
    let P = c.requires in
    P.2.chosen _ (subst (λ (l : List ℕ). Starts c.args.found l c.first_visit.result) (column_marks c.args.state.now _ P.1 P.2.low) (rw c.from.ensures at c.first_visit.ensures))
