-- The slot goes in where it belongs, or the next one behind comes last, which is the slot itself where fewer than five were listed; then the first five.
use mathlib.Core.Path.{ap, ◌∙◌}
use native.Mathlib.Omega.{arith}
use lib.ListN.{take}
use Rattle.memory.specs.Reading.{bytes_at}
use Rattle.fullest.specs.Listing.{slots_from}
use Rattle.fullest.proofs.MovingLaws.{slots_length, moved_in, moved-full, next-alone, moved-next}
use Rattle.fullest.proofs.moving.move_one.Goals as goal

pub put_in-requires : goal.put_in-requires
put_in-requires c =
    (omega arith, c.requires.1, rw c.without.ensures.1 c.requires.2.rest)

pub returns-then-least-x : goal.returns-then-least-x
returns-then-least-x c =
    moved_in (bytes_at c.args.state.now) c.args.slot (slots_from c.args.state.now 0 c.args.n) c.without.new.self c.key_at-x.result c.least-least.result
    c.without.ensures.1 c.key_at-x.ensures c.least-least.ensures c.cut.new.self c.if-least-x.true (c.cut.ensures ∙ ap (take 5) c.put_in.ensures)

pub returns-then-len-eq-LISTED : goal.returns-then-len-eq-LISTED
returns-then-len-eq-LISTED c =
    moved-full (bytes_at c.args.state.now) c.args.slot (slots_from c.args.state.now 0 c.args.n) c.without.new.self c.key_at-x.result c.least-least.result
    c.without.ensures.1 c.key_at-x.ensures c.least-least.ensures c.if-least-x.false (omega arith)

pub next_key-y-requires : goal.next_key-y-requires
next_key-y-requires c = λ few. next-alone (bytes_at c.args.state.now) c.args.slot (slots_from c.args.state.now 0 c.args.n) c.without.new.self c.key_at-x.result c.least-least.result
    c.without.ensures.1 c.key_at-x.ensures c.least-least.ensures c.requires.2 (omega (arith, slots_length c.args.state.now 0 c.args.n)) c.if-least-x.false

pub returns : goal.returns
returns c =
    moved-next (bytes_at c.args.state.now) c.args.slot (slots_from c.args.state.now 0 c.args.n) c.without.new.self c.key_at-x.result c.least-least.result
    c.without.ensures.1 c.key_at-x.ensures c.least-least.ensures c.next_key-y.result c.push_key.new.self c.if-least-x.false (omega arith)
    c.next_key-y.ensures c.push_key.ensures
