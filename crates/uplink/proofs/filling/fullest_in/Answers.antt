-- Each place reads the rules' entry there, and the count is how many there are.
use Rattle.std.proofs.Common.{arith}
use Rattle.memory.proofs.OneMemory.{memory-sound}
use Rattle.uplink.specs.Told.{entry_told}
use Rattle.uplink.proofs.Filled.{five-told}
use Rattle.uplink.proofs.filling.fullest_in.Goals as goal

pub bounds-state-4096 : goal.bounds-state-4096
bounds-state-4096 c =
    omega (arith, (memory-sound c.args.state.now c.requires.0).size)

pub returns : goal.returns
returns c =
    five-told c.args.state.now c.requires c.from-count.result
    (entry_told c.place_at.result) (entry_told c.place_at-2.result) (entry_told c.place_at-3.result) (entry_told c.place_at-4.result) (entry_told c.place_at-5.result)
    c.from-count.ensures c.place_at.ensures c.place_at-2.ensures c.place_at-3.ensures c.place_at-4.ensures c.place_at-5.ensures
