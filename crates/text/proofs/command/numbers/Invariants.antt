-- At each turn the numbers read, and those still to read from the place on, are all of them.
use Rattle.std.proofs.Common.{◌≡◌, ◌-◌, ◌≤◌, length, take, drop}
use Rattle.text.specs.Commands.{numbers_after, numbers_of}
use Rattle.text.proofs.command.numbers.Given as goal

abbrev pub invariant-loop-number : goal.invariant-loop-number
invariant-loop-number g l =
    (l.at ≤ length l.s) × (length l.number-items ≡ g.row.N) × (numbers_of g.row.N l.s ≡ numbers_after (take l.number-index l.number-items) (g.row.N - l.number-index) (drop l.at l.s))
