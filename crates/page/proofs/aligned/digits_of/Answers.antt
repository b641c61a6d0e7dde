-- The number is 0, or its tenth logarithm tells.
use Rattle.std.proofs.Common.{Option, Some, None, ◌≡◌, ℕ, ◌+◌, ◌*◌, ◌^◌, ◌≤◌, ◌<◌, length, arith}
use Rattle.std.specs.Option.{IfNone, IfSome, unwrap_or}
use Rattle.text.specs.Digits.{digits}
use Rattle.text.proofs.DigitLaws.{digits-length-one, digits-power}
use Rattle.page.proofs.aligned.digits_of.Goals as goal

counted : (o : Option ℕ) (n : ℕ) → IfNone o (n ≡ 0) → IfSome o (λ k. 10 ^ k ≤ n) → IfSome o (λ k. n < 10 * 10 ^ k) → IfSome o (λ k. k < 10)
    → (unwrap_or o 0 + 1 ≡ length (digits n)) × (unwrap_or o 0 + 1 < 11)
counted None n z l h b = (omega (arith, digits-length-one n (omega (arith, z))), omega arith)
counted (Some k) n z l h b = (omega (arith, digits-power k n l h), omega arith)

pub returns : goal.returns
returns c =
    let L = c.checked_ilog10.ensures in
    let e = c.unwrap_or.ensures in
    rw e (counted _ c.args.n L.none L.power_le L.next_power_gt L.bound)
