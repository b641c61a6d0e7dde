-- Each turn goes on behind a whole line.
use native.Mathlib.Omega.{arith}
use Rattle.text.proofs.LineLaws.{after_on}
use Rattle.matrix.proofs.print_all.Goals as goal

pub loop-at-smaller : goal.loop-at-smaller
loop-at-smaller c =
    let further = after_on c.args.text.now c.loop-at.at c.loop-at-test.true in
    omega (arith, c.in-Some.ensures.0, further, c.loop-at-test.true)
