-- Bytes written into lent bytes at a place.
use Rattle.std.specs.Prelude.{◌≡◌, List, ◌++◌, ℕ, ◌+◌, length, take, drop}

-- the bytes from `at` on are those of `bytes`, the others are as they were
abbrev pub written : List ℕ → ℕ → List ℕ → List ℕ
written s at bytes = take at s ++ (bytes ++ drop (at + length bytes) s)

-- so they are in `after`, and `next` is the place behind them
pub record Written (s : List ℕ) (at : ℕ) (bytes : List ℕ) (next : ℕ) (after : List ℕ) : Type 0 where
  pub place : next ≡ at + length bytes
  pub buffer : after ≡ written s at bytes
