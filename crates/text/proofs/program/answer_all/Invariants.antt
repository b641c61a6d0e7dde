-- Each turn answers the line at `places`, and the rest of the text is shorter. The output has room for each line, since those before it printed little.
use Rattle.std.proofs.Common.{◌≡◌, ◌-◌, length}
use Rattle.text.proofs.OutputLaws.{Going}
use Rattle.text.proofs.program.answer_all.Given as goal

abbrev pub invariant-loop-places : goal.invariant-loop-places
invariant-loop-places l =
    (length l.state ≡ length l.initial.state) × (length l.out ≡ length l.initial.out)
    × Going l.initial.state l.text l.places.at l.places.place l.state l.out

abbrev pub decreases-loop-places : goal.decreases-loop-places
decreases-loop-places l = length l.text - l.places.at
