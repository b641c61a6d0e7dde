-- The bytes that are there are the number, or those that are not read as 0.
use Rattle.std.proofs.Common.{◌≡◌, ◌-◌, ◌≤◌, length, refl, ◌∙◌, arith, drop_of_length-le, length-take-le}
use Rattle.reader.proofs.TakingLaws.{number-front}
use Rattle.reader.proofs.taking.take_number.Goals as goal

pub returns-in-Some : goal.returns-in-Some
returns-in-Some c =
    let a = c.args in
    let parts = c.in-Some.ensures.cases in
    let size = length-take-le a.width a.image.now parts.0 in
    ((rw (parts.1, size) at c.number_of.ensures) ∙ number-front a.width a.image.now, parts.2)

pub returns : goal.returns
returns c =
    let b = c.args.image.now in
    let short : length b ≤ c.args.width = omega (arith, c.in_default.ensures.cases) in
    let none : length b - length b ≡ 0 = omega arith in
    (c.number_beyond.ensures, rw (none, drop_of_length-le b short) refl)
