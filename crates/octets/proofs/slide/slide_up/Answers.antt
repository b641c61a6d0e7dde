-- The last 32 bytes of the run are kept, the first ones move by whole steps, and the kept ones are written: every byte has moved by one of the two.
use mathlib.Core.Path.{◌∙◌}
use native.Mathlib.Omega.{arith}
use Rattle.octets.proofs.SlideLaws.{slid-up-steps}
use Rattle.octets.proofs.slide.slide_up.Goals as goal

pub returns : goal.returns
returns c =
    let a = c.args in
    let kept = c.copy_step in
    let moved = c.up_by_one-2 in
    let back = c.copy_step-2 in
    back.ensures ∙ rw (kept.ensures, moved.ensures) (slid-up-steps a.i a.n 32 _ a.b.now _ (omega arith) (omega arith) (omega arith) (omega arith) (omega arith))
