-- The line so far, and what is held put into the slots that are left, are together the slot put into all of them.
use Prim.Native.Nat.{◌<◌, ◌≤◌}
use mathlib.Core.Path.{◌≡◌, ap, ◌∙◌}
use native.Mathlib.Omega.{arith}
use lib.Dec.{ltb}
use lib.ListN.{get_or, length}
use lib.Seq.{length-take-le}
use Rattle.memory.specs.Reading.{bytes_at}
use Rattle.fullest.specs.Keys.{key}
use Rattle.fullest.specs.Moved.{put_in, FallingLine}
use Rattle.fullest.proofs.MovingLaws.{in_turn, in_end, held_lt, unread, line-falls}
use borrow.Author.Rules.{rules}
use Rattle.fullest.proofs.line.Line.put_in.Goals as goal

pub loop-k-preserved : goal.loop-k-preserved
loop-k-preserved c =
    let f = bytes_at c.args.state.now in
    let turn = c.loop-k in
    let before = c.self.inside in
    let size : length before.places ≡ 6 = search rules in
    let size-now : length turn.self-inside.places ≡ 6 = search rules in
    let few : before.count ≤ 5 = omega (arith, ap length c.self.view_is, length-take-le before.count before.places (omega arith)) in
    let falls : FallingLine f before.count before.places = line-falls f before.places c.args.self.now before.count size few c.self.view_is c.requires.2 in
    let here = turn.invariant.2 turn.k (omega arith) in
    let low : get_or turn.self-inside.places turn.k 0 < 64 = omega (arith, here, falls.slots turn.k c.loop-k-test.true) in (
      turn.invariant.0,
      held_lt (ltb (key f (get_or turn.self-inside.places turn.k 0)) (key f turn.held)) _ _ 64 c.in_order-first.result c.in_order-first.ensures low turn.invariant.1,
      unread before.places turn.self-inside.places turn.k _ turn.invariant.2,
      in_turn f before.places before.count size few falls _ turn.self-inside.places turn.k turn.held c.in_order-first.result size-now c.loop-k-test.true here turn.invariant.3 c.in_order-first.ensures,
    )

pub returns : goal.returns
returns c =
    let f = bytes_at c.args.state.now in
    let turn = c.loop-k in
    let before = c.self.inside in
    let size : length before.places ≡ 6 = search rules in
    let few : before.count ≤ 5 = omega (arith, ap length c.self.view_is, length-take-le before.count before.places (omega arith)) in
    let falls : FallingLine f before.count before.places = line-falls f before.places c.args.self.now before.count size few c.self.view_is c.requires.2 in
    c.push.ensures
    ∙ rw turn.invariant.0 (in_end f before.places before.count size few falls _ turn.self-inside.places turn.k turn.held c.loop-k-test.false turn.auto.k-end turn.invariant.3)
    ∙ ap (put_in (key f) c.args.slot) c.self.view_is
