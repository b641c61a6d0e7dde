-- The tests are those of the numbers; that P is one less than 2^k says that one more is 2^k.
use Prim.Native.Nat.{ℕ, suc, ◌-◌, ◌^◌}
use mathlib.Core.Path.{◌≡◌, refl}
use mathlib.Core.Bool.{Bool, true, false, and-true as and-with-true}
use native.Mathlib.Omega.{arith}
use borrow.Author.Tests.{eqb-true, eqb-false, eq-eqb, ne_eqb}
use lib.Dec.{eqb}
use lib.Pow.{pow_pos}
use Rattle.memory.specs.Names as the
use Rattle.memory.specs.Reading.{number_in, byte_in}
use Rattle.memory.specs.Point.{over_at}
use Rattle.memory.proofs.point.round_over.Goals as goal

one_less : (p k n : ℕ) → n ≡ 2 ^ k → eqb p (n - 1) ≡ eqb (suc p) (2 ^ k)
one_less p k n e = go (eqb (suc p) (2 ^ k)) refl
  where
    go : (t : Bool) → eqb (suc p) (2 ^ k) ≡ t → eqb p (n - 1) ≡ t
    go true q = eq-eqb p (n - 1) (omega (arith, eqb-true (suc p) (2 ^ k) q))
    go false q = ne_eqb p (n - 1) (λ d. eqb-false (suc p) (2 ^ k) q (omega (arith, pow_pos k)))

pub overflow_sub-last : goal.overflow_sub-last
overflow_sub-last c =
    let k = byte_in the.order c.args.state.now 0 in
    let e : c.turns-last.result ≡ 2 ^ k = rw c.from.ensures at c.turns-last.ensures in
    omega (arith, pow_pos k)

pub returns : goal.returns
unfolding over_at
returns c =
    let b = c.args.state.now in
    let last = one_less (number_in the.position b 0) (byte_in the.order b 0) c.turns-last.result (rw c.from.ensures at c.turns-last.ensures) in
    rw (
      c.holds-held.ensures,
      c.load_scan-scan.ensures,
      last,
      and-with-true (eqb (suc (number_in the.position b 0)) (2 ^ byte_in the.order b 0)),
    )
