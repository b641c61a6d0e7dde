-- What the code answers of the line at a place.
use Rattle.std.specs.Prelude.{◌≡◌, ◌≤◌, ◌<◌, List, ℕ, length, Option, Some, None}
use Rattle.text.specs.declared.command.Line.{Line}
use Rattle.text.specs.declared.reader.Reader.{Reader}
use Rattle.text.specs.Lines.{line_at, line_after}
use Rattle.text.specs.Commands.{call_of, command_of}

-- the line l at the place `at` of the text s
pub record Reads (s : List ℕ) (at : ℕ) (l : Line) : Type 0 where
  pub asks : call_of l.command ≡ command_of (line_at s at)
  pub leads : l.next ≡ line_after s at

-- the line that a reader gives, and the reader left; none where nothing follows
pub record MovesOn (before : Reader) (l : Line) (after : Reader) : Type 0 where
  pub more : before.at < length before.text.now
  pub reads : Reads before.text.now before.at l
  pub same_text : after.text ≡ before.text
  pub next : after.at ≡ l.next

abbrev pub Moves : Reader → Option Line → Reader → Type 0
Moves before None after = (after ≡ before) × (length before.text.now ≤ before.at)
Moves before (Some l) after = MovesOn before l after
