-- Bytes written with a writer.
use Rattle.std.specs.Prelude.{◌≡◌, ◌≤◌, List, length, ℕ}
use Rattle.octets.specs.Writing.{Written}
use Rattle.octets.specs.declared.writer.Writer.{Writer}

-- the bytes are written at the writer's place, within its lent bytes; it goes on behind them, in the same lent bytes
pub record Wrote (before : Writer) (bytes : List ℕ) (after : Writer) : Type 0 where
  pub written : Written before.out.now before.at bytes after.at after.out.now
  pub room : after.at ≤ length before.out.now
  pub same_length : length after.out.now ≡ length before.out.now
  pub same_reference : after.out.ghost_name ≡ before.out.ghost_name
