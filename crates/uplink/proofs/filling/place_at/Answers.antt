-- Behind the count stands nobody; up to it, the slot listed there, and its bytes.
use Rattle.std.proofs.Common.{arith}
use Rattle.memory.proofs.OneMemory.{memory-sound}
use Rattle.uplink.proofs.Filled.{behind-last, slot-low, at_place}
use Rattle.uplink.proofs.filling.place_at.Goals as goal

pub bounds-state-4096 : goal.bounds-state-4096
bounds-state-4096 c =
    omega (arith, (memory-sound c.args.state.now c.requires.0.0).size)

pub returns-then-from-k : goal.returns-then-from-k
returns-then-from-k c =
    behind-last c.args.state.now c.requires.0 c.args.k (omega (arith, c.from.ensures, c.if-from-k.true))

pub bounds-state-k : goal.bounds-state-k
bounds-state-k c =
    omega (arith, (memory-sound c.args.state.now c.requires.0.0).size, c.requires.1)

pub bytes_of-bytes-requires : goal.bytes_of-bytes-requires
bytes_of-bytes-requires c =
    let s = c in (
      (memory-sound s.args.state.now s.requires.0.0).size,
      slot-low s.args.state.now s.requires.0 s.args.k c.from-slot.result s.requires.1 c.from-slot.ensures,
    )

pub returns : goal.returns
returns c =
    at_place c.args.state.now c.requires.0 c.args.k c.from-slot.result c.bytes_of-bytes.result c.requires.1
    (omega (arith, c.from.ensures, c.if-from-k.false)) c.from-slot.ensures c.bytes_of-bytes.ensures
