-- The answer so far and the test of the slots that are left, from the last key on, are together the test of the whole list.
use Rattle.std.proofs.Common.{◌≡◌, refl, arith}
use native.Mathlib.Nat.{sub-zero}
use Rattle.soundness.proofs.ListLaws.{order-out, order-turn, order-end}
use Rattle.soundness.proofs.list.in_order.Goals as goal

pub loop-k-init : goal.loop-k-init
loop-k-init c = rw (sub-zero c.args.n) refl

pub returns-then-slot-ge-SLOTS : goal.returns-then-slot-ge-SLOTS
returns-then-slot-ge-SLOTS c = order-out _ _ _ c.loop-k.ok c.loop-k.last c.loop-k.invariant c.loop-k-test.true c.from-slot.ensures c.if-slot-ge-SLOTS.true

pub loop-k-preserved : goal.loop-k-preserved
loop-k-preserved c = order-turn _ _ _ c.loop-k.ok c.loop-k.last c.loop-k.invariant c.loop-k-test.true c.from-slot.ensures c.if-slot-ge-SLOTS.false c.key_at-x.ensures

pub returns : goal.returns
returns c = let e : c.loop-k.k ≡ c.args.n = omega arith in order-end _ _ _ c.loop-k.ok c.loop-k.last c.loop-k.invariant e
