-- The k lowest bytes are written, and the number is left without them.
use Rattle.std.proofs.Common.{◌≡◌, ◌/◌, ◌^◌}
use Rattle.octets.specs.Number.{put}
use Rattle.octets.proofs.number.write_at.Given as goal

abbrev pub invariant-loop-k : goal.invariant-loop-k
invariant-loop-k g l =
    (l.b ≡ put (g.P.Places.at l.places) l.k l.fn.b (g.N.Number.value l.fn.v)) × (l.rest ≡ g.N.Number.value l.fn.v / 256 ^ l.k)
