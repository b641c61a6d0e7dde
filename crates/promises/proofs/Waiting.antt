-- A slot with a record waiting is a row, so its weight is from 1 to 2^k - 1; in the fresh state none waits.
use Prim.Native.Nat.{ℕ, ◌^◌, ◌≤◌, ◌<◌}
use mathlib.Core.Path.{◌≡◌, refl, ◌∙◌}
use mathlib.Core.Bool.{false}
use mathlib.Core.List.{List, [], ◌∷◌}
use native.Mathlib.Nat.{le_trans, lt_of_lt_of_le}
use native.Mathlib.Omega.{arith}
use lib.Pow.{pow_mono}
use Rattle.bits.specs.Order.{order}
use Rattle.bits.proofs.OrderLaws.{order_lt}
use Rattle.lists.specs.Slots.{occurs}
use Rattle.lists.specs.Tests.{is_empty}
use Rattle.rules.specs.State.{State, fresh, at, weights}
use Rattle.rules.specs.Facts.{Edition, Stage, SoundTo}
use Rattle.rules.proofs.Columns.{order_of-row}
use Rattle.rules.proofs.Rows.{filled_row, row-weight}
use Rattle.rules.proofs.Kept.{fresh-sound}
use Rattle.promises.specs.Rounds.{Waiting}

pub row-there : (i : ℕ) (rows : List ℕ) → occurs i rows ≡ 1 → is_empty rows ≡ false
row-there i [] e = absurd (omega arith)
row-there i (r ∷ rs) e = refl

module _ {b : Stage} {s : State} (S : SoundTo b s) (i : ℕ) (h : Waiting i s) where
  pub waits-row : occurs i s.rows ≡ 1
  waits-row = (S.slot i).row ∙ filled_row (at s.channels i).waiting h

  pub waits-rows : is_empty s.rows ≡ false
  waits-rows = row-there i s.rows waits-row

  pub weight-least : 1 ≤ (at s.channels i).weight
  weight-least = (row-weight S i (let m = waits-row in omega arith)).0

  pub weight-lt : (at s.channels i).weight < 2 ^ s.order
  weight-lt =
      let m : occurs i s.rows ≡ 1 = waits-row in
      let l : order (weights s.channels i) ≤ s.order = le_trans (order_of-row (weights s.channels) i s.rows (omega arith)) S.order-above in
      lt_of_lt_of_le (order_lt (weights s.channels i)) (pow_mono l)

pub fresh-idle : (e : ℕ) → Edition e → (i : ℕ) → Waiting i (fresh e) → ⊥
unfolding fresh
fresh-idle e E i h = let m : occurs i (fresh e).rows ≡ 1 = waits-row (fresh-sound e E) i h in omega arith
