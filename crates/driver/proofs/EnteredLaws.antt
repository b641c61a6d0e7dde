-- An entry by its two ways: a buffer of another length, and a call whose answer is shown.
use Prim.Native.Nat.{ℕ}
use mathlib.Core.Path.{◌≡◌, refl, sym, ◌∙◌}
use mathlib.Core.List.{List, [], ◌∷◌}
use borrow.Author.Tests.{eq-eqb, ne_eqb}
use lib.ListN.{length}
use Rattle.std.specs.Prelude.{Result, Ok, Err}
use Rattle.answers.specs.Answer.{unsound, number_of, Answer, refused, given, number}
use Rattle.answers.specs.declared.Refusal.{Refusal}
use Rattle.answers.specs.Told.{refusal_told, answered}
use Rattle.memory.specs.Memory.{Left}
use Rattle.uplink.specs.Told.{leaving}
use Rattle.image.specs.Parked.{Parked, parking}
use Rattle.image.specs.Told.{park_told}
use Rattle.driver.specs.Words.{words}
use Rattle.driver.specs.Entered.{shown, Comes, start_bytes, entry, entered, park_bytes, park_entry, park_entered}

-- The code's answer tells the rules': its refusals are those, and what it gives is shown as its numbers. So what comes back is the rules' answer, shown.
module _ {T A : Type 0} (n : ℕ) (bytes : A → List ℕ) (numbers : T → List ℕ) (view : Result T Refusal → Answer A) where
  pub comes_back : {r : ℕ} {a : List ℕ} (x : Result T Refusal) → ((w : Refusal) → view (Err w) ≡ refused (refusal_told w))
      → ((t : T) → x ≡ Ok t → (number (view (Ok t)) ≡ 0) × (shown n bytes (view (Ok t)) ≡ words (numbers t)))
      → Comes n numbers x r a → (r ≡ number (view x)) × (a ≡ shown n bytes (view x))
  comes_back (Ok t) refuses gives come = let (number, shows) = gives t refl in (come.number_is ∙ sym number, come.bytes_are ∙ sym shows)
  comes_back (Err w) refuses gives come = rw (refuses w) (come.number_is, come.bytes_are)

module _ {A : Type 0} (n : ℕ) (bytes : A → List ℕ) (left : Left A) (state answer : List ℕ) where
  pub entered-kept : (length answer ≡ n → ⊥) → entry (number_of unsound) state answer ≡ entered n bytes left state answer
  unfolding entered
  entered-kept off = rw (ne_eqb (length answer) n off)

  -- a call whose answer a comes back: its number, and its bytes
  entered-by : {r : ℕ} {s b : List ℕ} (a : Answer A) → length answer ≡ n → leaving a s ≡ left → (r ≡ number a) × (b ≡ shown n bytes a)
      → entry r s b ≡ entered n bytes left state answer
  unfolding entered
  entered-by a on e (p, q) = rw (p, q, ← e, eq-eqb (length answer) n on)

  pub entered-told : {T : Type 0} {numbers : T → List ℕ} {r : ℕ} {s a : List ℕ} (view : Result T Refusal → Answer A) (x : Result T Refusal)
      → ((w : Refusal) → view (Err w) ≡ refused (refusal_told w))
      → ((t : T) → x ≡ Ok t → (number (view (Ok t)) ≡ 0) × (shown n bytes (view (Ok t)) ≡ words (numbers t)))
      → length answer ≡ n → leaving (view x) s ≡ left → Comes n numbers x r a → entry r s a ≡ entered n bytes left state answer
  entered-told view x refuses gives on e come = entered-by (view x) on e (comes_back n bytes _ view x refuses gives come)

  -- the same where what is shown stands another way: the code's answer y, shown by its numbers, is the rules' answer a, shown
  pub entered-shown : {U : Type 0} {numbers : U → List ℕ} {r : ℕ} {s b : List ℕ} (a : Answer A) (y : Result U Refusal) → length answer ≡ n → leaving a s ≡ left
      → Comes n numbers y r b → (number (answered y) ≡ number a) × (shown n (λ t. words (numbers t)) (answered y) ≡ shown n bytes a)
      → entry r s b ≡ entered n bytes left state answer
  entered-shown a y on e come same = entered-by a on e (come.number_is ∙ same.0, come.bytes_are ∙ same.1)

-- a call without an answer buffer
pub entered-done : {r : ℕ} {s a : List ℕ} {left : Left (Unit {0})} (state : List ℕ) (view : Result (Unit {0}) Refusal → Answer (Unit {0})) (x : Result (Unit {0}) Refusal)
    → ((w : Refusal) → view (Err w) ≡ refused (refusal_told w)) → ((u : Unit {0}) → view (Ok u) ≡ given u)
    → leaving (view x) s ≡ left → Comes 0 (λ u. []) x r a → entry r s [] ≡ entered 0 start_bytes left state []
unfolding entered
entered-done state view (Ok u) refuses gives e come = rw (come.number_is, ← e, gives u)
entered-done state view (Err w) refuses gives e come = rw (come.number_is, ← e, refuses w)

-- a parking by its two ways
module _ (left : Parked) (state image answer : List ℕ) where
  pub park_kept : (length answer ≡ 4 → ⊥) → park_entry (number_of unsound) state image answer ≡ park_entered left state image answer
  unfolding park_entered
  park_kept off = rw (ne_eqb (length answer) 4 off)

  pub park-told : {r : ℕ} {s i a : List ℕ} (x : Result ℕ Refusal) → length answer ≡ 4 → parking (park_told x) s i ≡ left → Comes 4 (λ n. n ∷ []) x r a
      → park_entry r s i a ≡ park_entered left state image answer
  unfolding park_entered
  park-told x on e come =
      let (p, q) = comes_back 4 park_bytes (λ n. n ∷ []) park_told x (λ w. refl) (λ t e. (refl, refl)) come in
      rw (p, q, ← e, eq-eqb (length answer) 4 on)
