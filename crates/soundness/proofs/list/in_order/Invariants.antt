-- The answer so far and the test of the slots that are left, from the last key on, are together the test of the whole list.
use Rattle.std.proofs.Common.{◌≡◌, ◌-◌, ◌&&◌}
use Rattle.memory.specs.Reading.{bytes_at}
use Rattle.fullest.specs.Listing.{slots_from}
use Rattle.fullest.specs.Keys.{top, falling}
use Rattle.soundness.proofs.list.in_order.Given as goal

abbrev pub invariant-loop-k : goal.invariant-loop-k
invariant-loop-k l =
    falling (bytes_at l.state) top (slots_from l.state 0 l.n) ≡ (l.ok && falling (bytes_at l.state) l.last (slots_from l.state l.k (l.n - l.k)))
