-- The laws of a union, bit by bit: a bit is in it that is in one of its parts, and numbers are told apart by their bits, so two ways to take a union give
-- one number.
use Prim.Native.Nat.{ℕ, zero, suc, ◌+◌, ◌*◌, ◌/◌, ◌%◌, ◌^◌, ◌<◌, max}
use mathlib.Core.Path.{◌≡◌, ap, ◌∙◌}
use native.Mathlib.Nat.{lt_of_lt_of_le, le-max_left, le-max_right}
use native.Mathlib.Omega.{arith}
use lib.Bits.{bit_or, or_step}
use lib.Pow.{pow_mono}
use Rattle.bits.specs.Bit.{bit}
use Rattle.bits.specs.Order.{order}
use Rattle.bits.proofs.BitLaws.{bit-zero, bit-suc, bit_ext}
use Rattle.bits.proofs.OrderLaws.{order_lt}

pub bit-or : (c v w : ℕ) → bit c (bit_or v w) ≡ max (bit c v) (bit c w)
bit-or zero v w =
    let e : bit_or v w ≡ bit_or (v / 2) (w / 2) * 2 + max (v % 2) (w % 2) = or_step v w in
    let x : bit 0 v ≡ v % 2 = bit-zero v in
    let y : bit 0 w ≡ w % 2 = bit-zero w in
    bit-zero (bit_or v w) ∙ omega arith
bit-or (suc c) v w =
    let e : bit_or v w ≡ bit_or (v / 2) (w / 2) * 2 + max (v % 2) (w % 2) = or_step v w in
    let h : bit_or v w / 2 ≡ bit_or (v / 2) (w / 2) = omega arith in
    rw (bit-suc c v, bit-suc c w) (bit-suc c (bit_or v w) ∙ ap (bit c) h ∙ bit-or c (v / 2) (w / 2))

-- numbers with the same bits are the same: the larger of their orders says how many bits there are to look at
pub same_bits : (m n : ℕ) → ((c : ℕ) → bit c m ≡ bit c n) → m ≡ n
same_bits m n e =
    let k : ℕ = max (order m) (order n) in
    let hm : m < 2 ^ k = lt_of_lt_of_le (order_lt m) (pow_mono (le-max_left (order m) (order n))) in
    let hn : n < 2 ^ k = lt_of_lt_of_le (order_lt n) (pow_mono (le-max_right (order m) (order n))) in
    bit_ext k m n hm hn (λ c l. e c)
