-- The record sent, and the order still to be worked out: what Next has done then; and the notes of a memory after a send.
use Rattle.std.specs.Prelude.{◌≡◌, ℕ, ◌-◌, ◌<◌, ◌≤◌, List, Result, Ok, Err}
use Rattle.rules.specs.Numbers.{slots}
use Rattle.rules.specs.Next.{next_call}
use Rattle.memory.specs.Layout.{bytes_of}
use Rattle.memory.specs.Reading.{state_of}
use Rattle.memory.specs.Memory.{replied_base}
use Rattle.visits.specs.Order.{ordered, Unordered}
use Rattle.visits.specs.declared.choose.Chosen.{Chosen}
use Rattle.uplink.specs.Told.{next_told, leaving}
use Rattle.memory.specs.Memory.{base}
use Rattle.memory.specs.Reading.{bytes_at}
use Rattle.fullest.specs.Noted.{NotedBy, Noted, now_in}
use Rattle.answers.specs.declared.Refusal.{Refusal}
use Rattle.uplink.specs.declared.Sent.{Sent}

-- from the memory b with the choice x, a is what Next gives, and b' with its order worked out is the memory that Next leaves
pub record Sends (b : List ℕ) (x : Chosen) (a : Sent) (b' : List ℕ) : Type 0 where
  pub slot_lt : x.slot < slots
  pub unordered : Unordered b'
  pub same : leaving (next_told (Ok a)) (bytes_of (ordered x.slot (state_of b'))) ≡ replied_base b (next_call (state_of b))

-- what a send may take from the notes; and that it is taken, of the bytes of its slot and of nothing else
abbrev pub SentFits : List ℕ → Result Sent Refusal → Type 0
SentFits b (Ok a) = Noted b × (a.slot < slots) × (a.length ≤ bytes_at b a.slot)
SentFits b (Err r) = Unit {0}

abbrev pub SentNoted : Result Sent Refusal → List ℕ → List ℕ → Type 0
SentNoted (Ok a) b b' = ((f : ℕ → ℕ) → NotedBy f b → NotedBy (now_in f a.slot (f a.slot - a.length)) b') × (base b' ≡ base b)
SentNoted (Err r) b b' = b' ≡ b
