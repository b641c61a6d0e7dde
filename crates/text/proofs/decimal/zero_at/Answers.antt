-- After a 0 the number ends where no digit follows.
use Rattle.text.proofs.DigitLaws.{digit-told}
use Rattle.text.proofs.PlaceLaws.{zero-digit, zero-other}
use Rattle.text.proofs.decimal.zero_at.Goals as goal

pub returns-in-Some : goal.returns-in-Some
returns-in-Some c =
    let got = c.in-Some.ensures.lookup in
    zero-digit c.args.s.now c.args.at _ _ got.0 got.1 (digit-told _ c.is_ascii_digit.ensures.value c.if-is_ascii_digit.true)

pub returns-in_default : goal.returns-in_default
returns-in_default c =
    let got = c.in-Some.ensures.lookup in
    zero-other c.args.s.now c.args.at _ _ got.0 got.1 (digit-told _ c.is_ascii_digit.ensures.value c.if-is_ascii_digit.false)
