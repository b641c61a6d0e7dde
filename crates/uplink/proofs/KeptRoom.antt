-- What "kept" promises, on any lent bytes: where fewer than two records wait in a slot, a Put there is never refused for room. (A parked state refuses every Put.) The number that a call gives is 10 or
-- the rules' own, and theirs is 0 to 4.
use Rattle.std.proofs.Common.{◌≡◌, ℕ, ◌<◌, ◌≤◌, Bool, true, false, cond, ◌⊎◌, List, length, refl, inl, inr}
use Rattle.answers.specs.Answer.{unsound, refused, given, number}
use Rattle.rules.specs.Numbers.{kept}
use Rattle.rules.specs.State.{State, at}
use Rattle.rules.specs.Reply.{Reply}
use Rattle.rules.specs.Calls.{put_call}
use Rattle.rules.proofs.KeptRoom.{kept-room}
use Rattle.memory.specs.Reading.{state_of}
use Rattle.memory.specs.Memory.{sound_bytes, replied, on}

module _ {A : Type 0} (f : State → Reply A) (b : List ℕ) where
  number-replied : (r : Reply A) → number (replied b r).answer ≡ number r
  number-replied (refused n) = refl
  number-replied (given d) = refl

  number-ruled : (number (on f b).answer ≡ 10) ⊎ (number (on f b).answer ≡ number (f (state_of b)))
  unfolding on
  number-ruled = go (sound_bytes b)
    where
      said : Bool → ℕ
      said t = number (cond t (replied b (f (state_of b))) (record { answer = refused unsound; bytes = b })).answer

      go : (t : Bool) → (said t ≡ 10) ⊎ (said t ≡ number (f (state_of b)))
      go true = inr (number-replied (f (state_of b)))
      go false = inl refl

pub kept-room-on : (i t n r : ℕ) (b : List ℕ) → (state_of b).parked ≡ false → length (at (state_of b).channels i).waiting < kept
    → (number (on (put_call i t n r) b).answer ≡ 10) ⊎ (number (on (put_call i t n r) b).answer ≤ 4)
kept-room-on i t n r b unmarked few =
    elim (number-ruled (put_call i t n r) b) [ inl z ↦ inl z | inr e ↦ inr (rw e (kept-room i t n r (state_of b) unmarked few)) ]
