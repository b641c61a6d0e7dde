-- The order whose terms the table holds.
use Rattle.std.specs.Prelude.{ℕ}

-- "S(12) is held as one table of 4,095 terms"
abbrev pub table_order : ℕ
table_order = 12
