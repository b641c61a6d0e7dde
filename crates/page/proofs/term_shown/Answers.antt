-- A position below 2^k has fewer than k trailing zeros.
use mathlib.Core.Path.{◌≡◌, refl}
use Prim.Native.Nat.{ℕ, zero, suc, ◌+◌}
use native.Mathlib.Omega.{arith}
use Rattle.bits.specs.Trailing.{trailing}
use Rattle.bits.proofs.TrailingLaws.{trailing_lt}
use Rattle.spread.specs.Limits.{columns}
use Rattle.spread.specs.Sequence.{term}
use Rattle.page.specs.Page.{term_shown}
use Rattle.page.proofs.term_shown.Goals as goal

none-there : (p : ℕ) → p ≡ 0 → 0 ≡ term_shown p
unfolding term_shown
none-there p e = rw e

some-there : (p r : ℕ) → (p ≡ 0 → ⊥) → r ≡ trailing p → r + 2 ≡ term_shown p
unfolding term_shown term
some-there zero r h e = absurd (h refl)
some-there (suc p) r h e = omega arith

pub returns-then-position-eq0 : goal.returns-then-position-eq0
returns-then-position-eq0 c = none-there c.args.position c.if-position-eq0.true

pub overflow_add-result : goal.overflow_add-result
overflow_add-result c =
    omega (arith, c.trailing_of.ensures, trailing_lt columns c.args.position (omega (arith, c.if-position-eq0.false)) c.requires)

pub returns : goal.returns
returns c = some-there c.args.position c.trailing_of.result c.if-position-eq0.false c.trailing_of.ensures
