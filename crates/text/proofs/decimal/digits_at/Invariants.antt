-- At each turn the digits left, after the value so far, read as all of them did at the start.
use Rattle.std.proofs.Common.{◌≡◌, drop}
use Rattle.text.specs.Digits.{digits_off}
use Rattle.text.proofs.decimal.digits_at.Given as goal

abbrev pub invariant-loop-i : goal.invariant-loop-i
invariant-loop-i l = digits_off l.v (drop l.i l.s) ≡ digits_off l.initial.v (drop l.at l.s)
