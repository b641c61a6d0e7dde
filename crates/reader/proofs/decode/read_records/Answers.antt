-- The records passed are in the queue, and the run ends behind them.
use Rattle.std.proofs.Common.{ℕ, ◌+◌, ap, ◌∙◌, arith}
use Rattle.reader.proofs.RecordsDecode.{place_read, records-step, records-ended}
use Rattle.reader.proofs.decode.read_records.Goals as goal

pub loop-i-preserved : goal.loop-i-preserved
loop-i-preserved c =
    let a = c.args in
    let l = c.loop-i in
    λ s xs rest F size behind ends R.
    let place = ends ∙ place_read s a.slot a.memory.now c.requires.0 behind R.fits R.memory in
    records-step l.left.now l.memory s a.slot c.requires.0 xs rest F l.i (omega (arith, size, c.loop-i-test.true, c.from-i-end.ensures)) (l.invariant s xs rest F size behind ends R) behind
    (a.place + l.i) (ap (λ (n : ℕ). n + l.i) place) c.read_record-left.ensures

pub returns : goal.returns
returns c =
    let a = c.args in
    let l = c.loop-i in
    λ s xs rest F size behind ends R.
    records-ended s a.slot xs l.i (omega (arith, size, c.loop-i-test.false, c.from-i-end.ensures)) rest (l.invariant s xs rest F size behind ends R)
