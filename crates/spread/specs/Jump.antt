-- The next position whose column has a row: looked for one by one, and by at most two candidates.
use Rattle.std.specs.Prelude.{ℕ, zero, suc, ◌+◌, ◌-◌, ◌*◌, ◌/◌, ◌^◌, ◌<◌, ◌≡◌, Bool, cond, ltb, eqb, Option, Some, None}
use Rattle.bits.specs.Bit.{bit}
use Rattle.bits.specs.Order.{order}
use Rattle.spread.specs.Visits.{column_at}

-- The columns that have a row are the one bits of the union u of the rows' weights. Position p of order k finds a row if its column is one of them.
abbrev pub filled_at : ℕ → ℕ → ℕ → Bool
filled_at k u p = eqb (bit (column_at k p) u) 1

-- the first position after p and before 2^k that finds a row, f positions being looked at
unfoldable pub searched : ℕ → ℕ → ℕ → ℕ → Option ℕ
searched zero k u p = None
searched (suc f) k u p =
    let later = searched f k u (suc p) in
    cond (ltb (suc p) (2 ^ k)) (cond (filled_at k u (suc p)) (Some (suc p)) later) None

-- the next multiple of 2^s after p
abbrev pub multiple : ℕ → ℕ → ℕ
multiple s p = (p / 2 ^ s + 1) * 2 ^ s

-- the same by two candidates: the next multiple of 2^(k - order u), and the one after it. (With h the highest bit of u, k - order u is k - 1 - h.)
unfoldable pub jump : ℕ → ℕ → ℕ → Option ℕ
jump k u p =
    let s = k - order u in
    let a = multiple s p in
    cond (ltb a (2 ^ k)) (Some (cond (filled_at k u a) a (a + 2 ^ s))) None

-- what either means: the first position after p and before 2^k that finds a row, or that there is none
abbrev pub Found : ℕ → ℕ → ℕ → Option ℕ → Type 0
Found k u p None = (q : ℕ) → p < q → q < 2 ^ k → bit (column_at k q) u ≡ 0
Found k u p (Some t) = (p < t) × (t < 2 ^ k) × (bit (column_at k t) u ≡ 1) × ((q : ℕ) → p < q → q < t → bit (column_at k q) u ≡ 0)

-- where a jump lands, in one number: no position is 0, so 0 says that this round has none left
abbrev pub landing : Option ℕ → ℕ
landing None = 0
landing (Some t) = t
