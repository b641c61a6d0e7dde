-- The bytes from the k-th on make the number so far.
use Rattle.std.proofs.Common.{◌≡◌}
use Rattle.octets.proofs.NumberLaws.{upper}
use Rattle.octets.proofs.number.read_at.Given as goal

abbrev pub invariant-loop-k : goal.invariant-loop-k
invariant-loop-k g l = l.n ≡ upper (g.P.Places.at l.places) l.k g.N.Number.BYTES l.b
