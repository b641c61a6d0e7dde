-- Each turn tests one length and sets one place, eight on from the one that it is made of; the places before it stay.
use Rattle.std.proofs.Common.{◌≡◌}
use Rattle.soundness.specs.Check.{all_below, length_rule}
use Rattle.soundness.specs.Notes.{length_at, Strided}
use Rattle.soundness.proofs.sums.stride.Given as goal

abbrev pub invariant-loop-p : goal.invariant-loop-p
invariant-loop-p l = Strided (length_at l.state) l.p l.v × (l.ok ≡ all_below l.p (λ p. length_rule (length_at l.state p)))
