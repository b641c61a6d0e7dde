-- How many bits are set: none exactly in 0, so a mask in which no slot is counted is empty.
use Prim.Native.Nat.{ℕ, zero, suc, ◌/◌, ◌≤◌}
use mathlib.Core.Path.{◌≡◌, refl}
use native.Mathlib.Omega.{arith}
use lib.Count.{ones_in, ones}

-- of a number's lowest d bits, where it has no more
none_in : (d n : ℕ) → n ≤ d → ones_in d n ≡ 0 → n ≡ 0
unfolding ones_in
none_in zero n h e = omega arith
none_in (suc d) n h e =
    let half : n / 2 ≡ 0 = none_in d (n / 2) (omega arith) (omega arith) in
    omega arith

pub ones_none : (m : ℕ) → ones m ≡ 0 → m ≡ 0
unfolding ones
ones_none m e = none_in m m (omega arith) e

pub none-ones : ones 0 ≡ 0
unfolding ones ones_in
none-ones = refl
