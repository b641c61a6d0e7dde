-- The code's 2 to the k: 1 shifted by k, in numbers of w bits.
use Prim.Native.Nat.{ℕ, ◌*◌, ◌%◌, ◌^◌, ◌<◌}
use mathlib.Core.Path.{◌≡◌}
use native.Mathlib.Omega.{arith}
use lib.Pow.{shl_exact}

pub shifted : (w k : ℕ) → k < w → 1 * 2 ^ k % 2 ^ w ≡ 2 ^ k
shifted w k h = omega (arith, shl_exact {a = 1} 1 k w (omega arith) (omega arith))
