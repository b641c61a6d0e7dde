-- What a memory built from an image is.
use Rattle.std.specs.Prelude.{◌≡◌, ℕ, Bool, true, false, List}
use Rattle.std.proofs.Math.Option.{none, some}
use Rattle.rules.specs.State.{State}
use Rattle.rules.specs.Facts.{Sound}
use Rattle.memory.specs.Layout.{memory_of}
use Rattle.image.specs.Reading.{image_state}

-- where t is true it is that of the image's state, and where t is false the image is no sound state's
abbrev pub ReceivedIf : List ℕ → Bool → List ℕ → Type 0
ReceivedIf image true m = (s : State) × Sound s × (image_state image ≡ some s) × (m ≡ memory_of s)
ReceivedIf image false m = image_state image ≡ none

pub record Received (image : List ℕ) (t : Bool) (m : List ℕ) : Type 0 where
  pub received : ReceivedIf image t m
