-- The fields of the lent memory, by name. (Layout.antt has the tables that say where each stands.)
use Rattle.std.specs.Prelude.{ℕ}

pub data Name : Type 0 where
  -- a number for each slot, or row
  rows kind waiting ticket weight deficit serial : Name
  -- one number
  row_count order position column mask visit edition parked : Name
  -- bytes that stand for nothing
  nothing : Name
  -- a number for each waiting record
  length reference : Name
  -- the notes: a number for each slot, one number, a number for each listed slot
  bytes listed_count fullest : Name

-- a number for each name, by which names are told apart; which number it is says nothing
abbrev pub code : Name → ℕ
code rows = 0
code kind = 1
code waiting = 2
code ticket = 3
code weight = 4
code deficit = 5
code serial = 6
code row_count = 7
code order = 8
code position = 9
code column = 10
code mask = 11
code visit = 12
code edition = 13
code parked = 14
code nothing = 15
code length = 16
code reference = 17
code bytes = 18
code listed_count = 19
code fullest = 20
