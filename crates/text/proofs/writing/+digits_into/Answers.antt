-- The digits of n / 10 stand first, and the last digit behind them; n falls at each call.
use Rattle.std.proofs.Common.{◌+◌, ◌%◌, arith}
use Rattle.octets.proofs.WritingLaws.{byte-written, then-written, kept-length}
use Rattle.text.proofs.DigitLaws.{digits-one, digits_more, digits-length-one, digits-length-more}
use Rattle.text.proofs.writing.+digits_into.Goals as goal

pub bounds-out-0 : goal.bounds-out-0
bounds-out-0 t c = omega (arith, digits-length-one c.args.n c.if-n-lt10.true, c.requires)

pub returns-then-n-lt10 : goal.returns-then-n-lt10
returns-then-n-lt10 t c =
    let a = c.args in
    let first = byte-written a.out.now 0 (48 + a.n) (omega (arith, digits-length-one a.n c.if-n-lt10.true, c.requires)) in
    rw (digits-one a.n c.if-n-lt10.true) first

pub digits_into-count-requires : goal.digits_into-count-requires
digits_into-count-requires t c = (omega (arith, c.decreases, c.if-n-lt10.false), omega (arith, digits-length-more c.args.n c.if-n-lt10.false, c.requires))

pub bounds-out-count : goal.bounds-out-count
bounds-out-count t c =
    let W = c.digits_into-count.ensures in
    let more = digits-length-more c.args.n c.if-n-lt10.false in
    omega (arith, W.place, kept-length W (omega (arith, more, c.requires)), more, c.requires)

pub returns : goal.returns
returns t c =
    let a = c.args in
    let W = c.digits_into-count.ensures in
    let more = digits-length-more a.n c.if-n-lt10.false in
    let kept = kept-length W (omega (arith, more, c.requires)) in
    let last = byte-written c.digits_into-count.new.out c.digits_into-count.result (48 + a.n % 10) (omega (arith, W.place, kept, more, c.requires)) in
    rw (digits_more a.n c.if-n-lt10.false) (then-written W (omega (arith, more, c.requires)) last)
