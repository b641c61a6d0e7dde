-- The test is the rules', and the highest column is the order of the rows.
use Prim.Native.Nat.{ℕ, ◌+◌, ◌^◌}
use mathlib.Core.Bool.{Bool, true, false, ◌&&◌}
use mathlib.Core.List.{List}
use mathlib.Core.Path.{◌≡◌, refl, sym, ap, ap₂, ◌∙◌}
use lib.Dec.{eqb}
use Rattle.rules.specs.State.{weights, order_of, holds}
use Rattle.memory.proofs.RoundOver.{holds_read}
use Rattle.memory.specs.Reading.{state_of}
use Rattle.memory.specs.Point.{holds_at}
use Rattle.plain.specs.declared.scan.Place.{Place}
use Rattle.plain.specs.Places.{next_round}
use Rattle.plain.proofs.MatrixLaws.{order-found}
use Rattle.plain.proofs.scan.round_ended.Goals as goal

module _ (b : List ℕ) (x : Place) {h : Bool} {t : ℕ} (held : h ≡ holds_at b) (turns : t ≡ 2 ^ x.order) where
  test_is : h && eqb (x.position + 1) t ≡ holds (state_of b) (state_of b).rows && eqb (x.position + 1) (2 ^ x.order)
  test_is = ap₂ (λ (g e : Bool). g && e) (held ∙ holds_read b) (ap (eqb (x.position + 1)) turns)

  ended-there : {k : ℕ} → h && eqb (x.position + 1) t ≡ true → k ≡ order_of (weights (state_of b).channels) (state_of b).rows
      → ◌≡◌ {A = Place} (record { order = k; position = 0; column = x.column; terms = x.terms }) (next_round (state_of b) x)
  ended-there q e = rw (sym test_is ∙ q, e) refl

  stays-there : h && eqb (x.position + 1) t ≡ false → x ≡ next_round (state_of b) x
  stays-there q = rw (sym test_is ∙ q) refl

pub returns-then-held-place : goal.returns-then-held-place
returns-then-held-place c =
    let a = c.args in
    let P = c.requires in
    let b = a.state.now in
    let n = c.row_count in
    let afresh = order-found b a.matrix.now n.result c.order_in-order.result n.ensures.0 P.1 P.0.shown c.order_in-order.ensures in
    ended-there b a.place c.holds-held.ensures (rw c.from.ensures at c.turns.ensures) c.if-held-place.true afresh

pub returns : goal.returns
returns c =
    let a = c.args in
    stays-there a.state.now a.place c.holds-held.ensures (rw c.from.ensures at c.turns.ensures) c.if-held-place.false
