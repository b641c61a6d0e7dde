-- Before slot s the place is that of its first record, the total is the one before it, and the slots passed are tested.
use Rattle.std.proofs.Common.{◌≡◌, ◌≤◌, refl, ◌∙◌, arith}
use Rattle.memory.specs.Reading.{first_at, bytes_at}
use Rattle.soundness.specs.Check.{all_below}
use Rattle.soundness.specs.Notes.{sum_of}
use Rattle.soundness.proofs.CheckTurns.{all-turn}
use Rattle.soundness.proofs.SumLaws.{strided_total, first_next, slot-law, slots_end}
use Rattle.soundness.proofs.sums.slots_ok.Goals.{else-loop-s-test, then-loop-s-test+then-total-at}
use Rattle.soundness.proofs.sums.slots_ok.Goals as goal

pub loop-s-init : goal.loop-s-init
unfolding first_at sum_of all_below
loop-s-init c = (refl, refl, refl)

pub eight-behind-requires : goal.eight-behind-requires
eight-behind-requires c =
    omega (arith, (first_next _ _ c.requires.0 c.loop-s.s c.loop-s.at c.from-at.result c.loop-s-test.true c.loop-s.invariant.0 c.from-at.ensures).1, c.requires.2.long)

pub loop-s-preserved : goal.loop-s-preserved
loop-s-preserved c =
    let turn = c.loop-s in
    let b = c.args.state.now in
    let (next, within) = first_next _ _ c.requires.0 turn.s turn.at c.from-at.result c.loop-s-test.true turn.invariant.0 c.from-at.ensures in
    let behind = c.eight-behind.ensures ∙ strided_total _ _ _ c.requires.2 _ within in (
      next,
      behind,
      all-turn _ _ _ _ turn.invariant.2
          (c.slot_ok-ok.ensures
          ∙ slot-law _ _ c.requires.0 c.requires.1 turn.s turn.at c.from-at.result turn.before c.eight-behind.result (bytes_at b turn.s)
          c.loop-s-test.true turn.invariant.0 c.from-at.ensures refl turn.invariant.1 behind),
    )

pub returns : goal.returns
returns c =
    let turn = c.loop-s in
    let b = c.args.state.now in
    let passed : c.args.total ≤ first_at b turn.s
    = elim c.loop-s-test.branch [
      | else-loop-s-test w ↦ (let e : turn.s ≡ 64 = omega arith in rw e (omega (arith, c.requires.0.all)))
      | then-loop-s-test+then-total-at w ↦ rw turn.invariant.0 at w.if-total-at.true
    ] in
    slots_end _ _ c.requires.0 _ _ _ turn.auto.s-end passed turn.invariant.2 c.idle_ok.ensures
