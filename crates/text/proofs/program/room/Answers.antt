-- The length of a repeat, by its law: this one is too long to be worked out.
use mathlib.Core.Path.{◌≡◌, sym}
use Prim.Native.Nat.{ℕ}
use lib.ListN.{length, replicate, length-replicate}
use Rattle.text.specs.Answers.{most, room_for}
use Rattle.text.proofs.program.room.Goals as goal

zeros : (n : ℕ) → n ≡ length (replicate {A = ℕ} n 0)
zeros n = sym (length-replicate n 0)

pub returns : goal.returns
returns c = zeros (room_for most)
