-- The term is one more than the trailing zeros, of which a position below 2^k has fewer than k.
use mathlib.Core.Path.{ap, ◌∙◌}
use native.Mathlib.Numerals.{add-one}
use native.Mathlib.Omega.{arith}
use Prim.Native.Nat.{ℕ, suc, ◌-◌, ◌<◌}
use Rattle.bits.proofs.TrailingLaws.{trailing_lt}
use Rattle.spread.specs.Sequence.{term}
use Rattle.spread.specs.Visits.{column_at}
use Rattle.spread.proofs.jump.column_at.Goals as goal

zeros-lt : (c : goal.After-trailing_of) → c.trailing_of.result < c.args.order
zeros-lt c =
    let a = c.args in
    let P = c.requires in
    omega (arith, c.trailing_of.ensures, trailing_lt a.order a.position P.1 P.2)

pub overflow_add-result : goal.overflow_add-result
overflow_add-result c = omega (arith, zeros-lt c)

pub overflow_sub-result : goal.overflow_sub-result
overflow_sub-result c = omega (arith, zeros-lt c)

pub returns : goal.returns
unfolding column_at term
returns c =
    let a = c.args in
    (ap (λ (x : ℕ). a.order - x) (add-one c.trailing_of.result ∙ ap suc c.trailing_of.ensures), omega (arith, zeros-lt c))
