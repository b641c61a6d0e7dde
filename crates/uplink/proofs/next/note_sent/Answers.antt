-- The record's bytes are among those of its slot, which fit.
use Rattle.std.proofs.Common.{subst, arith}
use Rattle.memory.proofs.NoteLaws.{bytes_read}
use Rattle.uplink.specs.NextSteps.{SentFits}
use Rattle.uplink.proofs.next.note_sent.Goals as goal

pub overflow_cast-sent-2 : goal.overflow_cast-sent-2
overflow_cast-sent-2 c =
    let b = c.args.state.now in
    let p = subst (SentFits b) c.in-Ok.is c.requires in
    let i = c.in-Ok.sent.slot in
    record { fits = omega (arith, p.2, bytes_read p.0.bytes (λ i l. p.0.right.small i) b p.0.right.notes i p.1, p.0.right.small i) }
