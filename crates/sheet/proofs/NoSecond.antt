-- An answer of the code is told from each other one by what it says, so the contract leaves room for no second answer.
use Prim.Native.Nat.{ℕ}
use mathlib.Core.Path.{◌≡◌, refl, ap}
use Rattle.std.specs.Prelude.{Option, Some, None, Result}
use Rattle.answers.proofs.NoSecond.{mapped-once}
use Rattle.answers.specs.declared.Refusal.{Refusal}
use Rattle.sheet.specs.Told.{place_told, sheet_told}

place_told-once : (a b : Option ℕ) → place_told a ≡ place_told b → a ≡ b
place_told-once None None e = refl
place_told-once None (Some q) e = cc
place_told-once (Some p) None e = cc
place_told-once (Some p) (Some q) e = let same : p ≡ q = cc in ap (λ (n : ℕ). Some n) same

pub sheet_told-once : (a b : Result (Option ℕ) Refusal) → sheet_told a ≡ sheet_told b → a ≡ b
sheet_told-once = mapped-once place_told place_told-once
