-- `spread::jump::next_filled` meets its contract: its shifts give the next multiple exactly, and what it asks of that multiple is what the jump asks.
use Rattle.spread.proofs.JumpInNumbers.{jump-none-worked, jump-first-worked, jump-second-worked}
use Rattle.spread.proofs.jump.next_filled.Goals as goal

pub returns-then-order-first : goal.returns-then-order-first
returns-then-order-first c = jump-none-worked _ _ _ _ c.order_of.ensures c.requires.1 c.requires.2 c.requires.3 c.if-order-first.true

pub returns-then-union-column-eq1 : goal.returns-then-union-column-eq1
returns-then-union-column-eq1 c =
    jump-first-worked _ _ _ _ c.order_of.ensures c.requires.1 c.requires.2 c.requires.3 c.if-order-first.false _ c.column_at-column.ensures.0 c.if-union-column-eq1.true

pub returns : goal.returns
returns c =
    jump-second-worked _ _ _ _ c.order_of.ensures c.requires.1 c.requires.2 c.requires.3 c.if-order-first.false _ c.column_at-column.ensures.0 c.if-union-column-eq1.false
