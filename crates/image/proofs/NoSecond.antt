-- An answer of the code is told from each other one by what it says, so the contract leaves room for no second answer, buffer or memory.
use Prim.Native.Nat.{ℕ}
use mathlib.Core.Path.{◌≡◌, sym, ap, ◌∙◌}
use mathlib.Core.List.{List}
use Rattle.answers.proofs.Answers.{refused-given, given_inj}
use Rattle.answers.proofs.NoSecond.{refused-once}
use Rattle.image.specs.Parked.{Parked, parking, park_on}
use Rattle.image.specs.Told.{park_told}
use Rattle.std.specs.Prelude.{Result, Ok, Err}
use Rattle.answers.specs.declared.Refusal.{Refusal}

pub park_told-once : (a b : Result ℕ Refusal) → park_told a ≡ park_told b → a ≡ b
park_told-once (Ok n) (Ok m) e = ap Ok (given_inj e)
park_told-once (Ok n) (Err q) e = absurd (refused-given (sym e))
park_told-once (Err p) (Ok m) e = absurd (refused-given e)
park_told-once (Err p) (Err q) e = ap Err (refused-once p q e)

pub park_once : (v : ℕ) (state image : List ℕ) (a b : Result ℕ Refusal) (m n k l : List ℕ) → parking (park_told a) m k ≡ park_on v state image
    → parking (park_told b) n l ≡ park_on v state image → (a ≡ b) × (m ≡ n) × (k ≡ l)
park_once v state image a b m n k l e q =
    let same = e ∙ sym q in (
      park_told-once a b (ap (λ (x : Parked). x.answer) same),
      ap (λ (x : Parked). x.state) same,
      ap (λ (x : Parked). x.image) same,
    )
