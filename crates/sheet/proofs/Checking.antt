-- The call as a whole: its two refusals, and what the walk along the round makes of the list.
use Prim.Native.Nat.{ℕ, ◌≤◌, ◌<◌}
use mathlib.Core.Path.{◌≡◌, refl, ap}
use mathlib.Core.Bool.{true, false}
use mathlib.Core.List.{List}
use lib.ListN.{length}
use borrow.Author.Tests.{lt-ltb, le-ltb, eq-eqb, ne_eqb}
use Rattle.std.specs.Prelude.{Result, Ok, Err}
use Rattle.answers.specs.Answer.{too_many, bad_weight, refused, given}
use Rattle.spread.specs.Round.{round_of}
use Rattle.sheet.specs.Sheet.{right, wrong_at, rows_most, any_bad, sheet_call}
use Rattle.sheet.specs.Matching.{matched}
use Rattle.sheet.proofs.Matching.{finish, matched_sheet}

module _ (ws rows : List ℕ) where
  pub says_too_many : rows_most < length ws → refused too_many ≡ sheet_call ws rows
  unfolding sheet_call
  says_too_many h = rw (lt-ltb rows_most (length ws) h) refl

  pub says-bad : length ws ≤ rows_most → any_bad ws ≡ true → refused bad_weight ≡ sheet_call ws rows
  unfolding sheet_call
  says-bad h b = rw (le-ltb rows_most (length ws) h, b) refl

  module _ (h : length ws ≤ rows_most) (b : any_bad ws ≡ false) where
    says : (m : Result ℕ ℕ) → m ≡ matched rows 0 (round_of ws) → given (finish (length rows) m) ≡ sheet_call ws rows
    unfolding sheet_call
    says m e = rw (le-ltb rows_most (length ws) h, b, e) (ap given (matched_sheet rows (round_of ws)))

    pub says-wrong : (p : ℕ) → Err p ≡ matched rows 0 (round_of ws) → given (wrong_at p) ≡ sheet_call ws rows
    says-wrong p e = says (Err p) e

    pub says-right : (p : ℕ) → Ok p ≡ matched rows 0 (round_of ws) → p ≡ length rows → given right ≡ sheet_call ws rows
    says-right p e z = rw (eq-eqb p (length rows) z) at (says (Ok p) e)

    pub says-longer : (p : ℕ) → Ok p ≡ matched rows 0 (round_of ws) → (p ≡ length rows → ⊥) → given (wrong_at p) ≡ sheet_call ws rows
    says-longer p e n = rw (ne_eqb p (length rows) n) at (says (Ok p) e)
