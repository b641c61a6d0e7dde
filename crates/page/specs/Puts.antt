-- Bytes right-aligned in a width.
use Rattle.std.specs.Prelude.{List, ◌++◌, ℕ, ◌-◌, length, replicate}

-- spaces: as many as a width has left beside n bytes
abbrev pub gap : ℕ → ℕ → List ℕ
gap width n = replicate (width - n) 32

-- bytes right-aligned in a width
abbrev pub aligned : ℕ → List ℕ → List ℕ
aligned width bytes = gap width (length bytes) ++ bytes
