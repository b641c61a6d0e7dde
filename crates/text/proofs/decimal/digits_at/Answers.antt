-- At each turn the digits left, after the value so far, read as all of them did at the start.
use Rattle.std.proofs.Common.{refl, ◌∙◌, ap, length, arith}
use Rattle.text.specs.Places.{placed}
use Rattle.text.proofs.DigitLaws.{digit-told}
use Rattle.text.proofs.PlaceLaws.{stops_end, stops_here, digits-stop, digits_over, digits-on}
use Rattle.text.proofs.decimal.digits_at.Goals as goal

pub returns-then-not-is_ascii_digit : goal.returns-then-not-is_ascii_digit
returns-then-not-is_ascii_digit c =
    let s = c.args.s.now in
    let l = c.loop-i in
    let other = digit-told _ c.is_ascii_digit.ensures.value c.if-not-is_ascii_digit.true in
    digits-stop s l.i l.v l.i refl (omega arith) (stops_here s l.i (omega arith) other) ∙ ap (placed (length s)) l.invariant

pub returns-in_err-checked_mul : goal.returns-in_err-checked_mul
returns-in_err-checked_mul c =
    let s = c.args.s.now in
    let l = c.loop-i in
    let digit = digit-told _ c.is_ascii_digit.ensures.value c.if-not-is_ascii_digit.false in
    c.from_residual.ensures ∙ ap (placed (length s)) (digits_over s l.i l.v (omega arith) digit (omega arith) ∙ l.invariant)

pub returns-in_err-v : goal.returns-in_err-v
returns-in_err-v c =
    let s = c.args.s.now in
    let l = c.loop-i in
    let digit = digit-told _ c.is_ascii_digit.ensures.value c.if-not-is_ascii_digit.false in
    c.from_residual-in_err-v.ensures ∙ ap (placed (length s)) (digits_over s l.i l.v (omega arith) digit (omega arith) ∙ l.invariant)

pub loop-i-preserved : goal.loop-i-preserved
loop-i-preserved c =
    let s = c.args.s.now in
    let l = c.loop-i in
    let digit = digit-told _ c.is_ascii_digit.ensures.value c.if-not-is_ascii_digit.false in
    digits-on s l.i l.v c.in_ok-v.v (omega arith) digit (omega arith) (omega arith) ∙ l.invariant

pub returns : goal.returns
returns c =
    let s = c.args.s.now in
    let l = c.loop-i in
    digits-stop s l.i l.v (length s) (omega arith) (omega arith) (stops_end s l.i (omega arith)) ∙ ap (placed (length s)) l.invariant
