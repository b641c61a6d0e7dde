-- The row joins where it is a slot and there is room, and a good image's row is one and has room.
use Rattle.std.proofs.Common.{arith}
use Rattle.reader.proofs.StateDecode.{row_room}
use Rattle.reader.proofs.decode.read_row.Goals as goal

pub returns-else-row_count-lt-SLOTS : goal.returns-else-row_count-lt-SLOTS
returns-else-row_count-lt-SLOTS c =
    λ s F m low new. absurd (omega (arith, row_room F m low new, c.if-row_count-lt-SLOTS.false, c.row_count.ensures.0))
