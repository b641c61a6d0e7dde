-- An answer of the code is told from each other one by what it says, so the contract leaves room for no second answer or memory.
use Rattle.std.proofs.Common.{◌≡◌, ℕ, List, sym, refl, ap, ◌∙◌}
use Rattle.answers.specs.Answer.{Answer}
use Rattle.answers.proofs.Answers.{refused-given}
use Rattle.answers.proofs.NoSecond.{refused-once}
use Rattle.memory.specs.Memory.{Left}
use Rattle.image.specs.Parked.{leaving, read_on}
use Rattle.reader.specs.Told.{unpark_told}
use Rattle.std.specs.Prelude.{Result, Ok, Err}
use Rattle.answers.specs.declared.Refusal.{Refusal}

pub unpark_told-once : (a b : Result (Unit {0}) Refusal) → unpark_told a ≡ unpark_told b → a ≡ b
unpark_told-once (Ok u) (Ok v) e = refl
unpark_told-once (Ok u) (Err q) e = absurd (refused-given (sym e))
unpark_told-once (Err p) (Ok v) e = absurd (refused-given e)
unpark_told-once (Err p) (Err q) e = ap Err (refused-once p q e)

module _ {A R : Type 0} (told : R → Answer A) (once : (a b : R) → told a ≡ told b → a ≡ b) where
  left-once : (x : Left A) (a b : R) (m n : List ℕ) → leaving (told a) m ≡ x → leaving (told b) n ≡ x → (a ≡ b) × (m ≡ n)
  left-once x a b m n e q =
      let same = e ∙ sym q in
      (once a b (ap (λ (l : Left A). l.answer) same), ap (λ (l : Left A). l.bytes) same)

pub unpark_once : (image state : List ℕ) (a b : Result (Unit {0}) Refusal) (m n : List ℕ) → leaving (unpark_told a) m ≡ read_on image state
    → leaving (unpark_told b) n ≡ read_on image state → (a ≡ b) × (m ≡ n)
unpark_once image state = left-once unpark_told unpark_told-once (read_on image state)
