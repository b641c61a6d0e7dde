-- What "kept" promises: a channel with fewer than two records waiting is never refused for room, whatever the others hold. (A parked state refuses every Put.)
use Prim.Native.Nat.{ℕ, ◌≤◌, ◌<◌}
use mathlib.Core.Path.{◌≡◌, refl, sym, ap, ◌∙◌}
use mathlib.Core.Bool.{false, false≢true}
use mathlib.Core.List.{List}
use mathlib.Core.Logic.{inl, inr}
use native.Mathlib.Omega.{arith}
use native.Mathlib.Decide.{dec_lt}
use lib.Dec.{leb}
use lib.ListN.{length}
use borrow.Author.Tests.{lt-leb}
use Rattle.answers.specs.Answer.{number, Check}
use Rattle.answers.proofs.Answers.{GivenBy, number_by}
use Rattle.rules.specs.Numbers.{room, kept}
use Rattle.rules.specs.State.{State, at, shared_use}
use Rattle.rules.specs.Calls.{put_checks, put_call, no_cell}
use Rattle.rules.proofs.Parking.{unparked-is}

module _ (i t n r : ℕ) (s : State) (unmarked : s.parked ≡ false) (few : length (at s.channels i).waiting < kept) where
  abbrev checks : List Check
  checks = put_checks i t n (at s.channels i) (shared_use s.channels)

  not_full : leb room (length (at s.channels i).waiting) ≡ false
  not_full = lt-leb room (length (at s.channels i).waiting) (omega arith)

  not-spent : no_cell (at s.channels i) (shared_use s.channels) ≡ false
  not-spent = rw (lt-leb kept (length (at s.channels i).waiting) few) refl

  -- the checks before the two for room have the numbers 1 to 4
  no_more : (k : ℕ) → 4 < k → GivenBy k checks → ⊥
  no_more k h (inl (b, e)) = omega arith
  no_more k h (inr (inl (b, e))) = omega arith
  no_more k h (inr (inr (inl (b, e)))) = omega arith
  no_more k h (inr (inr (inr (inl (b, e))))) = omega arith
  no_more k h (inr (inr (inr (inr (inl (b, e)))))) = false≢true (sym not_full ∙ b)
  no_more k h (inr (inr (inr (inr (inr (inl (b, e))))))) = false≢true (sym not-spent ∙ b)
  no_more k h (inr (inr (inr (inr (inr (inr e)))))) = e

  -- it is taken, or refused for its slot, its ticket, its closing or the record's length: 0 to 4, neither 5 nor 13
  pub kept-room : number (put_call i t n r s) ≤ 4
  unfolding put_call
  kept-room = elim (dec_lt 4 (number (put_call i t n r s))) [
    | yes h ↦ elim (number_by checks _ (number (put_call i t n r s)) (sym (ap number (unparked-is s _ unmarked)))) [ inl z ↦ omega arith | inr g ↦ absurd (no_more (number (put_call i t n r s)) h g) ]
    | no h ↦ omega arith
  ]
