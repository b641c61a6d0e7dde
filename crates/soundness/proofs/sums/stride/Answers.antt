-- Each turn tests one length and sets one place, eight on from the one that it is made of; the places before it stay.
use Rattle.std.proofs.Common.{◌≡◌, refl, ap, sym, ◌∙◌, arith}
use Rattle.soundness.specs.Check.{all_below, length_rule, lengths_rule}
use Rattle.soundness.specs.Notes.{length_at}
use Rattle.soundness.proofs.CheckTurns.{all-turn, all_end}
use Rattle.soundness.proofs.NotesRead.{size-read}
use Rattle.soundness.proofs.SumLaws.{strided_none, strided_turn, stride_step}
use Rattle.soundness.proofs.sums.stride.Goals as goal

pub loop-p-init : goal.loop-p-init
unfolding all_below
loop-p-init c = (strided_none _ _ (omega arith) c.requires.2, refl)

pub loop-p-preserved : goal.loop-p-preserved
loop-p-preserved c =
    let turn = c.loop-p in
    let b = c.args.state.now in
    let read : c.two-size.result ≡ length_at b turn.p = c.two-size.ensures ∙ sym (size-read b turn.p) in (
      strided_turn _ _ _ _ (omega arith) (stride_step _ _ _ _ refl read) turn.invariant.0,
      all-turn _ _ _ _ turn.invariant.1 (c.length_ok-ok.ensures ∙ ap length_rule read),
    )

pub returns : goal.returns
unfolding lengths_rule
returns c =
    let e : c.loop-p.p ≡ c.args.total = omega arith in
    (all_end _ _ _ _ c.loop-p.invariant.1 e, rw e at c.loop-p.invariant.0)
