-- The line so far, and what is held put into the slots that are left, are together the slot put into all of them.
use Prim.Native.Nat.{ℕ, ◌≤◌, ◌<◌}
use mathlib.Core.Path.{◌≡◌}
use mathlib.Core.List.{◌++◌}
use lib.ListN.{get_or, take, drop}
use Rattle.memory.specs.Reading.{bytes_at}
use Rattle.fullest.specs.Keys.{key}
use Rattle.fullest.specs.Moved.{put_in}
use Rattle.fullest.proofs.line.Line.put_in.Given as goal

abbrev pub invariant-loop-k : goal.invariant-loop-k
invariant-loop-k l =
    (l.self-inside.count ≡ l.k-end) × (l.held < 64) × ((j : ℕ) → l.k ≤ j → get_or l.self-inside.places j 0 ≡ get_or l.initial.self-inside.places j 0)
    × (put_in (key (bytes_at l.state)) l.slot (take l.k-end l.initial.self-inside.places)
    ≡ take l.k l.self-inside.places ++ put_in (key (bytes_at l.state)) l.held (drop l.k (take l.k-end l.initial.self-inside.places)))
