-- The first mark is that of the first slot listed, and without it the marks are those of the rest.
use Prim.Native.Nat.{ℕ, suc, ◌+◌}
use mathlib.Core.List.{List}
use mathlib.Core.Path.{◌≡◌, refl}
use native.Mathlib.Numerals.{add-one}
use lib.ListN.{get_or, set}
use Rattle.bits.specs.Mask.{mask_of}
use Rattle.rules.specs.Next as rules
use Rattle.memory.specs.Reading.{row_count_at, state_of}
use Rattle.memory.proofs.SearchLaws.{rows-length}
use Rattle.visits.specs.declared.choose.Chosen.{Chosen}
use Rattle.plain.specs.declared.scan.Place.{Place}
use Rattle.plain.specs.Marks.{marks_in, first_mark}
use Rattle.std.specs.Prelude.{Some, ◌<◌, ◌∷◌}
use Rattle.plain.proofs.MarkLaws.{marks_first}
use Rattle.plain.proofs.choose.first_visit.Goals as goal

visit-is : (x : Place) {i j c m : ℕ} (l : List ℕ) → i ≡ j → c ≡ rules.noted l x.column → m ≡ mask_of l
    → ◌≡◌ {A = Chosen}
    (record { slot = i; started = 1; terms = x.terms; order = x.order; scan = record { position = x.position; column = c; mask = m; visit = i + 1 } })
    (record { slot = j; started = 1; terms = x.terms; order = x.order; scan = record { position = x.position; column = rules.noted l x.column; mask = mask_of l; visit = suc j } })
visit-is x {i} {j} l e f g = rw (e, f, g, add-one j) refl

-- r is the first row of b that the list m marks
module _ (b m : List ℕ) (r : ℕ) (e : Some r ≡ first_mark m (row_count_at b)) where
  first : (r < row_count_at b) × (marks_in m (state_of b).rows ≡ get_or (state_of b).rows r 0 ∷ marks_in (set m r 0) (state_of b).rows)
  first = marks_first m (state_of b).rows (row_count_at b) (rows-length b) r e

pub returns : goal.returns
returns c =
    let a = c.args in
    let b = a.state.now in
    let m = a.list.now in
    record {
      first = get_or (state_of b).rows a.row 0;
      rest = marks_in (set m a.row 0) (state_of b).rows;
      list_is = (first c.args.state.now c.args.list.now c.args.row c.requires.1).1;
      chosen_is = visit-is a.place (marks_in (set m a.row 0) (state_of b).rows) c.row_at-slot.ensures.0 c.noted-column.ensures c.mask_of-mask.ensures;
    }
