-- "Give each segment the number of segments on its longest way out, itself included" (F-7). Segments are given by segment i, i counted from 0.
use Rattle.std.specs.Prelude.{ℕ, zero, suc, ◌-◌, ◌≤◌, ◌<◌, max, ◌≡◌, true}
use Rattle.format.specs.declared.Head.{Head}
use Rattle.format.specs.declared.Segment.{Segment}
use Rattle.format.specs.Network.{goes_to, rows_number}

module _ (segment : ℕ → Segment) where
  -- ---- what it is

  -- a way out of segment i over m segments, itself included: from each on to one that follows it, to one that none follows
  pub data Way : ℕ → ℕ → Type 0 where
    ends : {i : ℕ} → (segment i).following.first ≡ 0 → (segment i).following.second ≡ 0 → Way i 1
    goes_on : {i j m : ℕ} → goes_to j (segment i).following ≡ true → Way j m → Way i (suc m)

  -- m is the greatest number of segments on a way out of segment i: one is over m, and none over more
  pub record Longest (i m : ℕ) : Type 0 where
    pub one : Way i m
    pub most : (k : ℕ) → Way i k → k ≤ m

  -- ---- document 01's form of it: recursion over the following segments. Their numbers are higher, so that n minus the segment number falls

  -- from number k, which is off the road where it is 0, else segment k − 1, with no more than left segments from there on
  unfoldable pub way_from : ℕ → ℕ → ℕ
  way_from zero k = 0
  way_from (suc left) zero = 0
  way_from (suc left) (suc i) = suc (max (way_from left (segment i).following.first) (way_from left (segment i).following.second))

  -- of segment i of n
  unfoldable pub longest_way : ℕ → ℕ → ℕ
  unfolding way_from
  longest_way n i = way_from (n - i) (suc i)

-- ---- on a network that no row refuses the form gives that number
abbrev pub FormIsLongest : Type 0
FormIsLongest =
    (h : Head) (entry : ℕ → ℕ → ℕ) (segment : ℕ → Segment) → rows_number h entry segment ≡ 0
    → (i : ℕ) → i < h.size → Longest segment i (longest_way segment h.size i)
