-- How "the greatest that .." is said.
use Rattle.std.specs.Prelude.{ℕ, zero, suc, Bool}
use Rattle.laws.specs.First.{row}

-- the greatest of 1..n at which the test holds, and 0 where there is none
unfoldable pub greatest : (ℕ → Bool) → ℕ → ℕ
unfolding row
greatest test zero = 0
greatest test (suc n) = row (test (suc n)) (suc n) (greatest test n)
