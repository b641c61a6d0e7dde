-- The bytes from k on stand, and what is left of the number gives the one before them.
use Rattle.std.proofs.Common.{◌≡◌, ◌+◌, ◌-◌, ◌/◌, ◌^◌, length}
use Rattle.image.specs.Parts.{high_first}
use Rattle.octets.specs.Writing.{written}
use Rattle.image.proofs.parts.put_number.Given as goal

abbrev pub invariant-loop-k : goal.invariant-loop-k
invariant-loop-k l =
    (l.w.at ≡ l.fn.w.at)
    × (length l.w.out.now ≡ length l.fn.w.out.now)
    × (l.w.out.ghost_name ≡ l.fn.w.out.ghost_name)
    × (l.rest ≡ l.number / 256 ^ (l.width - l.k))
    × (l.w.out.now ≡ written l.fn.w.out.now (l.fn.w.at + l.k) (high_first (l.width - l.k) l.number))
