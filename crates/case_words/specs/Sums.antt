-- Sums of a figure over the segments of a case in the words.
use Rattle.std.specs.Prelude.{ℕ, ◌+◌, ◌*◌, ◌≤◌, ◌<◌, List, length, get_or}
use Rattle.metanet.specs.Sound.{mv_most}

-- figure o of state i of the case whose states start at word at: 0 is N, 1 is w
abbrev pub figure_at : List ℕ → ℕ → ℕ → ℕ → ℕ
figure_at words at o i = get_or words (at + 16 * i + o) 0

-- the case stands in the words, and figure o of its states can be summed
pub record Summable (words : List ℕ) (at o n : ℕ) : Type 0 where
  pub many : n ≤ 40
  pub room : at + 16 * n + 8 ≤ length words
  pub inside : o < 8
  pub high : (i : ℕ) → i < n → figure_at words at o i ≤ mv_most
