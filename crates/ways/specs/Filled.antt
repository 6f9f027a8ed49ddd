-- A table of longest ways out, filled from the end of the road.
use Rattle.std.specs.Prelude.{ℕ, zero, suc, ◌≤◌, ◌<◌, ◌≡◌, List, get_or}
use Rattle.format.specs.Words.{segment_in}
use Rattle.emptying.specs.LongestWay.{longest_way}

-- the way out of number k, by the table ways: 0 off the road
unfoldable pub way_in : List ℕ → ℕ → ℕ
way_in ways zero = 0
way_in ways (suc i) = get_or ways i 0

-- of the n segments of a kept network those from i on have theirs in the table
pub record FilledFrom (kept : List ℕ) (n i : ℕ) (ways : List ℕ) : Type 0 where
  pub each : (j : ℕ) → i ≤ j → j < n → get_or ways j 0 ≡ longest_way (segment_in kept) n j
