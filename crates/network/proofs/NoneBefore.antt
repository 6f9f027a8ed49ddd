-- Row 28, where rows 7, 27 and 8 refuse no record.
use Prim.Native.Nat.{ℕ, ◌<◌, ◌≤◌}
use mathlib.Core.List.{List}
use mathlib.Core.Path.{◌≡◌, refl, sym}
use native.Mathlib.Omega.{arith}
use lib.Dec.{eqb}
use borrow.Author.Tests.{eq-eqb}
use Rattle.laws.specs.First.{first_of, some_below}
use Rattle.laws.proofs.First.{row_passed, row_later, first_of-zero, first_of_all}
use Rattle.laws.proofs.Tests.{or_left}
use Rattle.format.specs.declared.Head.{Head}
use Rattle.format.specs.declared.Segment.{Segment}
use Rattle.format.specs.Network.{chain, record_rows, goes_to, has_before, origin_number}
use Rattle.format.specs.File.{head_of, record_start, following_of, segment_at, segment_on, record_padding, record_number, records_number, origins_number}
use Rattle.format.proofs.Accepted.{SegmentWithin, FollowingWithin}
use Rattle.format.proofs.Rows.{segment_within, following_within}
use Rattle.format.proofs.Before.{before_below}
use Rattle.format.proofs.Chain.{chain-origin}

-- ---- by any head

module _ (b : List ℕ) (h : Head) where
  abbrev pub segment_by : ℕ → Segment
  segment_by k = segment_at b h k (record_start h k)

  module _ (passed : first_of (record_number b h) h.size ≡ 0) where
    fields_by : (i : ℕ) → i < h.size → SegmentWithin h i (segment_by i)
    unfolding record_number record_rows
    fields_by i l = segment_within h i (segment_by i) (or_left _ (record_padding b (record_start h i)) (row_passed _ _ _ (first_of-zero (record_number b h) h.size passed i l)))

    followers_by : (i : ℕ) → i < h.size → FollowingWithin h.size i (segment_by i).following
    unfolding record_number record_rows
    followers_by i l = following_within h i (segment_by i).following (row_passed _ _ _ (row_later _ _ _ (first_of-zero (record_number b h) h.size passed i l)))

    -- those before segment i are below it
    pub looked : (i : ℕ) → i < h.size → has_before segment_by h.size i ≡ some_below (λ k. goes_to i (following_of b h k (record_start h k))) i
    looked i l = before_below segment_by h.size i followers_by l

    chained : h.version ≡ 1 → (k : ℕ) → k < h.size → (segment_by k).following ≡ chain h.size k
    unfolding following_of
    chained v k l = rw (eq-eqb h.version 1 v) refl

    -- version 1: none of the first n is refused
    pub chain_by : h.version ≡ 1 → (n : ℕ) → n ≤ h.size → 0 ≡ first_of (origin_number segment_by h.size) n
    chain_by v n few =
        sym (first_of_all _ n (λ i l. chain-origin segment_by h.size (chained v) ((fields_by 0 (omega (arith, l, few))).origin_first refl) i (omega (arith, l, few))))

-- ---- by the file's own

module _ (b : List ℕ) (passed : records_number b ≡ 0) where
  pub followers_in : (i : ℕ) → i < (head_of b).size → FollowingWithin (head_of b).size i (segment_on b i).following
  unfolding records_number
  followers_in = followers_by b (head_of b) passed

  pub chain_passes : (head_of b).version ≡ 1 → origins_number b ≡ 0
  unfolding records_number origins_number
  chain_passes v = sym (chain_by b (head_of b) passed v (head_of b).size (omega arith))
