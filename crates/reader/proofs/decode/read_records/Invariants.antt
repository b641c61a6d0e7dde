-- The records passed are in the queue, and the run ends behind them.
use Rattle.std.proofs.Common.{◌≡◌, ℕ, List, [], ◌++◌, length, take, drop}
use Rattle.rules.specs.State.{Record, State}
use Rattle.rules.specs.Numbers.{slots}
use Rattle.memory.specs.Reading.{first_at}
use Rattle.memory.specs.Edits.{queue_now}
use Rattle.memory.specs.Fits.{Fits}
use Rattle.image.specs.Image.{records_bytes}
use Rattle.reader.specs.Decoding.{Reached, NoneBehind}
use Rattle.reader.proofs.decode.read_records.Given as goal

abbrev pub invariant-loop-i : goal.invariant-loop-i
invariant-loop-i l =
    (s : State) (xs : List Record) (rest : List ℕ) → Fits (queue_now s l.slot xs) → length xs ≡ l.count → NoneBehind s l.slot
    → l.place ≡ first_at l.initial.memory slots → Reached l.image (records_bytes xs ++ rest) l.initial.memory (queue_now s l.slot [])
    → Reached l.left (records_bytes (drop l.i xs) ++ rest) l.memory (queue_now s l.slot (take l.i xs))
