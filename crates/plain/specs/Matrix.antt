-- The weight matrix: what stands in its cells, and its highest column that is not empty.
use Rattle.std.specs.Prelude.{ℕ, ◌-◌, ◌≤◌, ◌<◌, ◌≡◌, List, [], get_or}
use Rattle.bits.specs.Bit.{bit}
use Rattle.spread.specs.Limits.{columns}
use Rattle.rules.specs.State.{weights}
use Rattle.memory.specs.Reading.{row_count_at, state_of}

-- what stands in the cell of column c and row r
abbrev pub cell : List (List ℕ) → ℕ → ℕ → ℕ
cell m c r = get_or (get_or m c []) r 0

-- the first n rows of the matrix hold the weights of the first n rows: the cell of column c is bit c (f gives a slot's weight)
unfoldable pub Marked : (ℕ → ℕ) → List ℕ → ℕ → List (List ℕ) → Type 0
Marked f rows n m = (c r : ℕ) → c < columns → r < n → cell m c r ≡ bit c (f (get_or rows r 0))

-- m is the matrix of the memory b
abbrev pub MatrixOf : List ℕ → List (List ℕ) → Type 0
MatrixOf b m = Marked (weights (state_of b).channels) (state_of b).rows (row_count_at b) m

-- over the first n rows, k is one more than the highest column that is not empty, and 0 where all are
pub record Top (m : List (List ℕ)) (n k : ℕ) : Type 0 where
  pub most : k ≤ columns
  pub above : (c r : ℕ) → k ≤ c → c < columns → r < n → cell m c r ≡ 0
  pub found : 0 < k → (r : ℕ) × (r < n) × (cell m (k - 1) r ≡ 0 → ⊥)
