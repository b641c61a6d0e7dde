-- The order and the scan point stored are those of the state that the memory is of, but for the order and P.
use mathlib.Core.Path.{refl, ◌∙◌}
use native.Mathlib.Omega.{arith}
use Rattle.memory.specs.Reading.{state_of}
use Rattle.memory.specs.Edits.{with_order}
use Rattle.memory.proofs.PointEdits.{fits-order}
use Rattle.visits.specs.Order.{reordered}
use Rattle.visits.proofs.OrderedState.{scan-here}
use Rattle.visits.proofs.order.reorder.Goals as goal

pub returns : goal.returns
returns c =
    let u = c.requires.0 in
    let s = state_of c.args.state.now in
    let read = c.load_scan-scan.ensures ∙ scan-here u in
    c.store_scan.ensures (with_order s c.args.order) (reordered s c.args.order c.args.position).scan (fits-order u.fits c.args.order (omega (arith, c.requires.1)))
    (c.store_order.ensures s u.fits u.bytes) (rw read refl)
