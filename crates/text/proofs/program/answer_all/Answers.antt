-- Each turn answers the line at `places`, and the rest of the text is shorter. The output has room for each line, since those before it printed little.
use Rattle.std.proofs.Common.{◌<◌, refl, ◌∙◌, length, arith}
use Rattle.text.proofs.LineLaws.{after_on}
use Rattle.text.proofs.OutputLaws.{begins, goes, ends}
use Rattle.text.proofs.program.answer_all.Goals as goal

pub loop-places-init : goal.loop-places-init
loop-places-init c =
    let a = c.args in
    (refl, refl, begins a.state.now a.text.now a.out.now)

pub answer_line-places-requires : goal.answer_line-places-requires
answer_line-places-requires c =
    let l = c.loop-places in
    let more : l.places.at < length c.args.text.now = omega (arith, c.loop-places-test.true) in
    (l.invariant.2.within, omega (arith, l.invariant.2.before_last more, l.invariant.1, c.requires))

pub loop-places-smaller : goal.loop-places-smaller
loop-places-smaller c =
    let l = c.loop-places in
    let a = c.args in
    let more : l.places.at < length a.text.now = omega (arith, c.loop-places-test.true) in
    omega (arith, c.answer_line-places.ensures.at_value, after_on a.text.now l.places.at more)

pub loop-places-preserved : goal.loop-places-preserved
loop-places-preserved c =
    let l = c.loop-places in
    let more : l.places.at < length c.args.text.now = omega (arith, c.loop-places-test.true) in
    let done = c.answer_line-places in
    (done.auto.state ∙ l.invariant.0, done.auto.out ∙ l.invariant.1, goes _ _ _ _ _ _ l.invariant.2 _ _ _ _ more (omega (arith, l.invariant.2.before_last more, l.invariant.1, c.requires)) done.ensures.at_value done.ensures.state_after done.ensures.prints)

pub returns : goal.returns
returns c =
    let l = c.loop-places in
    ends _ _ _ _ _ _ l.invariant.2 (omega (arith, c.loop-places-test.false)) (omega (arith, l.invariant.1, c.requires))
