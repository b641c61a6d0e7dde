-- Each way out is that of the definition.
use mathlib.Core.Path.{◌≡◌}
use Prim.Native.Nat.{ℕ, ◌+◌}
use native.Mathlib.Numerals.{add-one}
use borrow.Author.Tests.{eq-eqb, ne_eqb}
use Rattle.spread.specs.Visits.{column_at}
use Rattle.memory.specs.declared.point.Scan.{Scan}
use Rattle.visits.specs.declared.choose.Chosen.{Chosen}
use Rattle.page.specs.InNumbers.{scanned_in}
use Rattle.page.proofs.scanned.Goals as goal

module _ (p : Scan) (x : Chosen) where
  taken : (r : ℕ) → (x.terms ≡ 0 → ⊥) → r ≡ column_at x.order x.scan.position → r + 1 ≡ scanned_in p x
  unfolding scanned_in
  taken r h e = rw (ne_eqb x.terms 0 h, add-one r, e)

  noted : x.terms ≡ 0 → (p.mask ≡ 0 → ⊥) → p.column + 1 ≡ scanned_in p x
  unfolding scanned_in
  noted e h = rw (eq-eqb x.terms 0 e, ne_eqb p.mask 0 h) (add-one p.column)

  none : x.terms ≡ 0 → p.mask ≡ 0 → 0 ≡ scanned_in p x
  unfolding scanned_in
  none e h = rw (eq-eqb x.terms 0 e, eq-eqb p.mask 0 h)

pub column_at-requires : goal.column_at-requires
column_at-requires c =
    let T = c.requires in
    rw c.from.ensures (T.order-low, T.position_some c.if-chosen-ne0.true, T.position-low)

pub returns-then-chosen-ne0 : goal.returns-then-chosen-ne0
returns-then-chosen-ne0 c =
    let a = c.args in
    taken a.scan a.chosen c.column_at.result c.if-chosen-ne0.true (rw c.from.ensures at c.column_at.ensures.0)

pub returns-then-scan-ne0 : goal.returns-then-scan-ne0
returns-then-scan-ne0 c =
    let a = c.args in
    rw c.from-then-scan-ne0.ensures (noted a.scan a.chosen c.if-chosen-ne0.false c.if-scan-ne0.true)

pub returns : goal.returns
returns c =
    let a = c.args in
    none a.scan a.chosen c.if-chosen-ne0.false c.if-scan-ne0.false
