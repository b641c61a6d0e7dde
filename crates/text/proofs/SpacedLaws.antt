-- Numbers written one after the other, each after a space.
use mathlib.Core.Path.{◌≡◌, refl, sym, ap, ◌∙◌}
use mathlib.Core.List.{List, [], ◌∷◌, ◌++◌, append_assoc, append-nil}
use Prim.Native.Nat.{ℕ, suc, zero-le, ◌+◌, ◌*◌, ◌^◌, ◌≤◌, ◌<◌}
use native.Mathlib.Numerals.{add-one}
use native.Mathlib.Omega.{arith}
use lib.ListN.{length, get_or, take, drop, length-append, take-append-drop}
use lib.Seq.{take-suc, drop-cons}
use Rattle.text.specs.Digits.{digits}
use Rattle.text.specs.Commands.{spaced}
use Rattle.text.specs.Writing.{answer_line}
use Rattle.text.proofs.DigitLaws.{digits-ten}

pub spaced_append : (a b : List ℕ) → spaced (a ++ b) ≡ spaced a ++ spaced b
spaced_append [] b = refl
spaced_append (n ∷ a) b = ap (λ (l : List ℕ). 32 ∷ digits n ++ l) (spaced_append a b) ∙ ap (λ (l : List ℕ). 32 ∷ l) (sym (append_assoc (digits n) (spaced a) (spaced b)))

module _ (ns : List ℕ) (i : ℕ) (h : i < length ns) where
  -- one number more
  pub spaced-next : spaced (take (i + 1) ns) ≡ spaced (take i ns) ++ (32 ∷ digits (get_or ns i 0))
  spaced-next =
      ap (λ (k : ℕ). spaced (take k ns)) (add-one i)
      ∙ ap spaced (take-suc ns i 0 h)
      ∙ spaced_append (take i ns) (get_or ns i 0 ∷ [])
      ∙ ap (λ (l : List ℕ). spaced (take i ns) ++ (32 ∷ l)) (append-nil (digits (get_or ns i 0)))

  -- it finds room where all the numbers do
  pub spaced-room : length (spaced (take i ns)) + length (32 ∷ digits (get_or ns i 0)) ≤ length (spaced ns)
  spaced-room =
      let whole : spaced ns ≡ spaced (take i ns) ++ (32 ∷ digits (get_or ns i 0) ++ spaced (drop (suc i) ns)) =
      ap spaced (sym (take-append-drop i ns)) ∙ spaced_append (take i ns) (drop i ns) ∙ ap (λ (l : List ℕ). spaced (take i ns) ++ spaced l) (drop-cons ns i 0 h) in
      omega (
        arith,
        ap length whole ∙ length-append (spaced (take i ns)) (32 ∷ digits (get_or ns i 0) ++ spaced (drop (suc i) ns)),
        length-append (digits (get_or ns i 0)) (spaced (drop (suc i) ns)),
      )

-- a number of 32 bits takes at most 11 bytes with its space
pub spaced-length : (ns : List ℕ) → ((i : ℕ) → get_or ns i 0 < 2 ^ 32) → length (spaced ns) ≤ 11 * length ns
spaced-length [] h = zero-le
spaced-length (n ∷ ns) h =
    let one : length (digits n) ≤ 10 = digits-ten n (h 0) in
    let others : length (spaced ns) ≤ 11 * length ns = spaced-length ns (λ (i : ℕ). h (suc i)) in
    omega (arith, length-append (digits n) (spaced ns))

pub answer-length : (letter : ℕ) (ns : List ℕ) → length (answer_line letter ns) ≡ length (spaced ns) + 2
answer-length letter ns = omega (arith, length-append (spaced ns) (10 ∷ []))
