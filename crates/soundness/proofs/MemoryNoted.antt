-- A base with notes behind it that are right for the bytes of a state: with that state's base it is that state's memory.
use Rattle.std.proofs.Common.{◌≡◌, ℕ, ◌<◌, List, ◌++◌, length, refl, ◌∙◌, arith, length-append}
use lib.Seq.{take-append_seam, drop-append_seam}
use Rattle.lists.proofs.TabLaws.{tab-same}
use Rattle.rules.specs.Numbers.{slots}
use Rattle.rules.specs.State.{State}
use Rattle.rules.specs.Fullest.{bytes_in}
use Rattle.rules.specs.Facts.{Sound}
use Rattle.rules.proofs.Ranked.{fullest-same}
use Rattle.rules.proofs.Filling.{bytes_most, AsFull}
use Rattle.memory.specs.Layout.{notes_by, notes_of, bytes_of, memory_of, base_length}
use Rattle.memory.specs.Memory.{base}
use Rattle.memory.proofs.Base.{bytes_small}
use Rattle.memory.proofs.NoteLaws.{length-notes}
use Rattle.fullest.specs.Noted.{NotedBy}
use Rattle.soundness.proofs.NotesChecked.{both-parts}

-- the notes look at the bytes of the slots alone
pub notes-same : (f g : ℕ → ℕ) → ((j : ℕ) → j < slots → f j ≡ g j) → notes_by f ≡ notes_by g
unfolding notes_by
notes-same f g h = rw (tab-same slots f g h, fullest-same f g h) refl

-- what changes no channel's bytes changes no note
pub notes-kept : (s s' : State) → AsFull s s' → notes_of s' ≡ notes_of s
notes-kept s s' h = notes-same (bytes_in s'.channels) (bytes_in s.channels) (λ j l. h j)

pub noted_other : (f g : ℕ → ℕ) (b : List ℕ) → NotedBy f b → ((j : ℕ) → f j ≡ g j) → NotedBy g b
noted_other f g b N h = record { size = N.size; small = λ i. rw (← h i) (N.small i); notes = N.notes ∙ notes-same f g (λ j l. h j) }

-- any base with a sound state's notes behind it
pub noted-behind : {s : State} → Sound s → (β : List ℕ) → length β ≡ base_length → NotedBy (bytes_in s.channels) (β ++ notes_of s)
noted-behind {s} S β e =
    record {
      size = omega (arith, length-append β (notes_of s), length-notes (bytes_in s.channels) (bytes_small S));
      small = λ i. omega (arith, bytes_most S i);
      notes = rw (← e) (drop-append_seam β (notes_of s));
    }

pub base-behind : (β n : List ℕ) → length β ≡ base_length → base (β ++ n) ≡ β
base-behind β n e = rw (← e) (take-append_seam β n)

-- and the memory, once the notes are right for the state's own bytes
pub memory-noted-by : (f : ℕ → ℕ) (s : State) (b : List ℕ) → base b ≡ bytes_of s → NotedBy f b → ((j : ℕ) → j < slots → f j ≡ bytes_in s.channels j) → b ≡ memory_of s
memory-noted-by f s b e N h = both-parts b s e (N.notes ∙ notes-same f (bytes_in s.channels) h)
