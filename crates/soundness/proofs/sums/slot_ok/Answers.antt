-- The bytes waiting are the two bytes read.
use Rattle.std.proofs.Common.{sym, ap, eqb, ◌∙◌, ◌+◌, ◌-◌, ◌%◌}
use Rattle.fullest.proofs.BytesRead.{bytes_read}
use Rattle.soundness.proofs.sums.slot_ok.Goals as goal

pub returns : goal.returns
returns c = ap (eqb ((c.args.behind + (65536 - c.args.before)) % 65536)) (c.two.ensures ∙ sym (bytes_read c.args.state.now c.args.slot))
