-- What the OR of the differences of neighbours, each modulo 2^64, says of the entries of a curve.
use Rattle.std.specs.Prelude.{◌≡◌, ℕ, ◌+◌, ◌%◌, ◌^◌, ◌<◌, ◌≤◌}

-- a - b, modulo 2^64, is below 2^18
pub record Near (a b : ℕ) : Type 0 where
  pub by : ℕ
  pub small : by < 262144
  pub wraps : (by + b) % 2 ^ 64 ≡ a

-- b is not above a, and less than 2^18 below it
pub record Below (a b : ℕ) : Type 0 where
  pub falls : b ≤ a
  pub little : a < b + 262144

-- r, the OR of the first n differences of the entries e, is below 2^18 where each entry is so below the one before, and only where each is near it
pub record Differences (e : ℕ → ℕ) (n r : ℕ) : Type 0 where
  pub small : ((j : ℕ) → j < n → Below (e j) (e (j + 1))) → r < 262144
  pub near : r < 262144 → (j : ℕ) → j < n → Near (e j) (e (j + 1))
