-- The order stored is the larger of the memory's and the weight's that joined, which is the larger of it and the rows'.
use Rattle.std.proofs.Common.{ap, ◌∙◌}
use Rattle.memory.specs.Layout.{bytes_of}
use Rattle.uplink.proofs.Putting.{rises}
use Rattle.uplink.proofs.engine.JumpingEngine.rise.Goals as goal

pub load_weight-requires : goal.load_weight-requires
load_weight-requires c =
    let J = c.requires in
    J.slot_lt

pub returns : goal.returns
returns c =
    let J = c.requires in
    c.store_order.ensures _ J.held.fits J.held.bytes
    ∙ ap bytes_of (rises J c.load_order.ensures c.load_weight.ensures c.larger-order.ensures)
