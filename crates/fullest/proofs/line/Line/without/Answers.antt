-- Each turn adds one slot, unless it is the slot that is left out.
use mathlib.Core.Path.{◌≡◌, sym, ap, ◌∙◌}
use mathlib.Core.List.{[], ◌∷◌, ◌++◌}
use Prim.Native.Nat.{ℕ}
use native.Mathlib.Omega.{arith}
use lib.Seq.{get_or-take, get_or-drop}
use Rattle.fullest.specs.Listing.{slot_at}
use Rattle.fullest.proofs.MovingLaws.{out-kept, out-left}
use Rattle.fullest.proofs.line.Line.without.Goals as goal
use Rattle.fullest.proofs.line.Line.without.Goals.{then-from-slot, else-from-slot}

pub loop-t-preserved : goal.loop-t-preserved
loop-t-preserved c =
    let (few, so-far) = c.loop-t.invariant in
    let here : c.from.result ≡ slot_at c.args.state.now c.loop-t.t-index = c.from.ensures ∙ get_or-take _ _ c.loop-t.t-index 0 (omega arith) ∙ get_or-drop _ c.args.state.now c.loop-t.t-index 0 in
    elim c.if-from-slot.branch [
      | then-from-slot w ↦
          out-kept c.args.state.now c.loop-t.self c.args.slot c.loop-t.t-index c.from.result few so-far here c.if-from-slot.self w.if-from-slot.true
          (w.self-is ∙ w.push.ensures ∙ ap (λ (t : ℕ). c.loop-t.self ++ (t ∷ [])) (sym c.from.ensures))
      | else-from-slot w ↦
          out-left c.args.state.now c.loop-t.self c.args.slot c.loop-t.t-index c.from.result few so-far here c.if-from-slot.self w.if-from-slot.false w.self-is
    ]
