-- The rule of the terms, over all entries of the table at once.
use Prim.Native.Nat.{ℕ, ◌-◌, ◌^◌, ◌≤◌, ◌<◌}
use mathlib.Core.Path.{◌≡◌, ap, ◌∙◌}
use mathlib.Core.List.{List}
use native.Mathlib.Omega.{arith}
use lib.ListN.{get_or}
use Rattle.spread.specs.Sequence.{spread, term_at, term}
use Rattle.spread.proofs.Sequence.{term_rule}
use Rattle.terms.specs.Table.{table_order}

-- "the term is one more than the number of trailing zero bits of the position", at every position of a table that is S(12)
pub entries-ruled : (terms : List ℕ) → terms ≡ spread table_order
    → (p : ℕ) → 1 ≤ p → p < 2 ^ table_order → get_or terms (p - 1) 0 ≡ term p
unfolding term_at
entries-ruled terms is p h l = ap (λ (t : List ℕ). get_or t (p - 1) 0) is ∙ term_rule table_order p h (omega arith)
