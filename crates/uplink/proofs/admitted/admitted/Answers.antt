-- The check's answer is soundness, so the mark can be asked for.
use Rattle.std.proofs.Common.{ap, not}
use Rattle.uplink.proofs.Lending.{checked-long}
use Rattle.uplink.proofs.admitted.admitted.Goals as goal

pub is_parked-requires : goal.is_parked-requires
is_parked-requires c = checked-long c.args.state.now c.check.result c.check.ensures (ap not c.if-not-check.false)
