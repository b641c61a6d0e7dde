-- The limit of fewer than five is the least key of a slot with bytes waiting; of five it is the key of the last.
use Rattle.std.proofs.Common.{◌≡◌, arith}
use Rattle.soundness.proofs.ListLaws.{last-slot, limit-five, limit-fewer}
use Rattle.soundness.proofs.list.count_for.Goals as goal

pub returns-then-n-lt-LISTED : goal.returns-then-n-lt-LISTED
returns-then-n-lt-LISTED c = limit-fewer _ _ _ c.if-n-lt-LISTED.true c.count_filled.ensures

pub key_at-requires : goal.key_at-requires
key_at-requires c =
    let five : c.args.n ≡ 5 = omega arith in
    omega (arith, last-slot _ _ five c.requires.1)

pub returns : goal.returns
returns c =
    let five : c.args.n ≡ 5 = omega arith in
    limit-five _ _ _ _ _ five c.from.ensures c.key_at.ensures c.count_above.ensures
