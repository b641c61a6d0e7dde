-- Before slot s the place is that of its first record, and the line holds the totals up to it.
use Rattle.std.proofs.Common.{refl, ◌∙◌, arith}
use Rattle.memory.specs.Reading.{first_at}
use Rattle.soundness.proofs.SumLaws.{strided_total, ended-none, ended-turn, first_next}
use Rattle.soundness.proofs.sums.ends_of.Goals as goal

pub loop-s-init : goal.loop-s-init
unfolding first_at
loop-s-init c = (refl, ended-none _ _ c.requires.2)

pub eight-requires : goal.eight-requires
eight-requires c =
    omega (arith, (first_next _ _ c.requires.0 c.loop-s.s c.loop-s.at c.from-at.result c.loop-s-test.true c.loop-s.invariant.0 c.from-at.ensures).1, c.requires.1.long)

pub loop-s-preserved : goal.loop-s-preserved
loop-s-preserved c =
    let turn = c.loop-s in
    let (next, within) = first_next _ _ c.requires.0 turn.s turn.at c.from-at.result c.loop-s-test.true turn.invariant.0 c.from-at.ensures in
    let behind = c.eight.ensures ∙ strided_total _ _ _ c.requires.1 _ within in
    (next, ended-turn _ _ _ turn.ends (omega arith) (rw next at behind) turn.invariant.1)
