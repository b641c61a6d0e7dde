-- Each way out is what mask and column give: the mask is empty exactly if no slot is counted in it.
use Rattle.std.proofs.Common.{ℕ, ◌≡◌, sym, ap, ◌∙◌, le-ltb, lt-ltb, eq-eqb, ne_eqb}
use lib.Count.{ones}
use Rattle.bits.proofs.OnesLaws.{ones_none, none-ones}
use Rattle.spread.specs.Limits.{columns}
use Rattle.soundness.specs.Check.{to_visit_rule}
use Rattle.soundness.proofs.to_visit_ok.Goals as goal

-- a mask in which slots are counted is not empty
some : (mask count : ℕ) → count ≡ ones mask → (count ≡ 0 → ⊥) → mask ≡ 0 → ⊥
some mask count e counted z = counted (e ∙ ap ones z ∙ none-ones)

pub returns-then-slots_in-eq0 : goal.returns-then-slots_in-eq0
unfolding to_visit_rule
returns-then-slots_in-eq0 c = rw (
  sym c.load_mask-mask.ensures,
  sym c.from-column.ensures,
  eq-eqb _ 0 (ones_none _ (sym c.slots_in.ensures ∙ c.if-slots_in-eq0.true)),
)

pub returns-then-column-ge-COLUMNS : goal.returns-then-column-ge-COLUMNS
unfolding to_visit_rule
returns-then-column-ge-COLUMNS c = rw (
  sym c.load_mask-mask.ensures,
  sym c.from-column.ensures,
  ne_eqb _ 0 (some _ _ c.slots_in.ensures c.if-slots_in-eq0.false),
  le-ltb _ columns c.if-column-ge-COLUMNS.true,
)

pub returns : goal.returns
unfolding to_visit_rule
returns c = rw (
  sym c.load_mask-mask.ensures,
  sym c.from-column.ensures,
  ne_eqb _ 0 (some _ _ c.slots_in.ensures c.if-slots_in-eq0.false),
  lt-ltb _ columns c.if-column-ge-COLUMNS.false,
  c.in_column.ensures,
)
