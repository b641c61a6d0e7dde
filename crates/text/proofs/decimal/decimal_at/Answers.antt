-- A number starts with a digit: with 0, and no other follows, or with another, and the rest are read one by one.
use Rattle.std.proofs.Common.{◌∙◌, ◌+◌, ap, length, drop}
use Rattle.text.specs.Digits.{digits_off}
use Rattle.text.specs.Places.{placed}
use Rattle.text.proofs.DigitLaws.{digit-told}
use Rattle.text.proofs.PlaceLaws.{number_past, number-other, number-zero, number_digits}
use Rattle.text.proofs.decimal.decimal_at.Goals as goal

pub returns-in_err-c : goal.returns-in_err-c
returns-in_err-c c = c.from_residual.ensures ∙ number_past c.args.s.now c.args.at c.in_err-c.ensures.lookup.0

pub returns-then-not-is_ascii_digit : goal.returns-then-not-is_ascii_digit
returns-then-not-is_ascii_digit c =
    let got = c.in_ok-c.ensures.lookup in
    number-other c.args.s.now c.args.at _ _ got.0 got.1 (digit-told _ c.is_ascii_digit.ensures.value c.if-not-is_ascii_digit.true)

pub returns-then-c-eq48 : goal.returns-then-c-eq48
returns-then-c-eq48 c =
    let got = c.in_ok-c.ensures.lookup in
    c.zero_at.ensures ∙ number-zero c.args.s.now c.args.at _ _ got.0 got.1 c.if-c-eq48.true

pub returns : goal.returns
returns c =
    let got = c.in_ok-c.ensures.lookup in
    let s = c.args.s.now in
    c.digits_at.ensures
    ∙ ap (λ v. placed (length s) (digits_off v (drop (c.args.at + 1) s))) c.from.ensures
    ∙ number_digits s c.args.at _ _ got.0 got.1 (digit-told _ c.is_ascii_digit.ensures.value c.if-not-is_ascii_digit.false) c.if-c-eq48.false
