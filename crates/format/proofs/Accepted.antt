-- What acceptance says, as records whose fields the crates above read.
use Prim.Native.Nat.{ℕ, ◌+◌, ◌*◌, ◌≤◌, ◌<◌}
use mathlib.Core.Path.{◌≡◌}
use mathlib.Core.Bool.{true}
use mathlib.Core.List.{List, []}
use lib.ListN.{length, get_or}
use Rattle.format.specs.declared.Head.{Head}
use Rattle.format.specs.declared.Following.{Following}
use Rattle.format.specs.declared.Segment.{Segment}
use Rattle.format.specs.Network.{Network, chain, entry_of, segment_of, has_before, rows_number}
use Rattle.format.specs.File.{file_size}
use Rattle.format.specs.Words.{entry_in, segment_in}

-- the lists of a network are as long as its head says
pub record Formed (w : Network) : Type 0 where
  pub curves : length w.curves ≡ w.head.curves
  pub entries : (k : ℕ) → k < w.head.curves → length (get_or w.curves k []) ≡ 201
  pub segments : length w.segments ≡ w.head.size

-- the rows of a network
abbrev pub network_number : Network → ℕ
network_number w = rows_number w.head (entry_of w) (segment_of w)

-- rows 3 and 4
pub record HeadWithin (h : Head) : Type 0 where
  pub version_low : 1 ≤ h.version
  pub version_high : h.version ≤ 2
  pub step_low : 1 ≤ h.step
  pub step_high : h.step ≤ 60
  pub size_low : 1 ≤ h.size
  pub size_high : h.size ≤ 40
  pub curves_low : 1 ≤ h.curves
  pub curves_high : h.curves ≤ 8
  pub tau_low : 1 ≤ h.tau
  pub tau_high : h.tau ≤ 120
  pub nu_high : h.nu ≤ 200
  pub kappa_low : 1 ≤ h.kappa
  pub kappa_high : h.kappa ≤ 200
  pub delta_high : h.delta ≤ 1000

-- row 6, of the entries e
pub record CurveWithin (e : ℕ → ℕ) : Type 0 where
  pub start_low : 1000 ≤ e 0
  pub start_high : e 0 ≤ 200000
  pub falls : (j : ℕ) → j < 200 → e (j + 1) ≤ e j

-- row 7, of segment i, counted from 0
pub record SegmentWithin (h : Head) (i : ℕ) (s : Segment) : Type 0 where
  pub metres_low : 100 ≤ s.metres
  pub metres_high : s.metres ≤ 2000
  pub lanes_low : 1 ≤ s.lanes
  pub lanes_high : s.lanes ≤ 8
  pub curve_high : s.curve < h.curves
  pub critical_low : 1 ≤ s.critical
  pub critical_high : s.critical < s.jam
  pub jam_high : s.jam ≤ 200
  pub origin_high : s.origin ≤ 1
  pub origin_first : i ≡ 0 → s.origin ≡ 1
  pub exit_high : s.exit ≤ 1000
  pub exit_last : s.following.first ≡ 0 → s.following.second ≡ 0 → s.exit ≡ 0
  pub most_none : s.origin ≡ 0 → s.most ≡ 0
  pub most_low : s.origin ≡ 1 → 1 ≤ s.most
  pub most_high : s.most ≤ 300000
  pub share_high : s.following.share ≤ 1000
  pub share_alone : s.following.second ≡ 0 → s.following.share ≡ 1000

-- row 27, of what follows segment i, counted from 0
pub record FollowingWithin (n i : ℕ) (f : Following) : Type 0 where
  pub first_high : f.first ≤ n
  pub second_high : f.second ≤ n
  pub first_higher : 0 < f.first → i + 1 < f.first
  pub second_higher : 0 < f.second → i + 1 < f.second
  pub second_later : 0 < f.second → 0 < f.first
  pub apart : 0 < f.second → f.first ≡ f.second → ⊥

-- all rows, of a network that is given by its head, entries and segments
pub record RowsWithin (h : Head) (entry : ℕ → ℕ → ℕ) (segment : ℕ → Segment) : Type 0 where
  pub head : HeadWithin h
  pub curve : (k : ℕ) → k < h.curves → CurveWithin (entry k)
  pub each : (i : ℕ) → i < h.size → SegmentWithin h i (segment i)
  pub onward : (i : ℕ) → i < h.size → FollowingWithin h.size i (segment i).following
  pub reach : (i : ℕ) → i < h.size → entry (segment i).curve 0 * h.step ≤ 3600 * (segment i).metres
  -- a segment without an origin has one before it
  pub begins : (i : ℕ) → i < h.size → (segment i).origin ≡ 0 → has_before segment h.size i ≡ true
  -- version 1 is the chain
  pub chained : (i : ℕ) → i < h.size → h.version ≡ 1 → (segment i).following ≡ chain h.size i

-- h is within rows 3 and 4, and b is as long as h says
pub record Sized (b : List ℕ) (h : Head) : Type 0 where
  pub within : HeadWithin h
  pub long : length b ≡ file_size h

-- the words of a network are all there, and its head is within rows 3 and 4
pub record Kept (ws : List ℕ) (h : Head) : Type 0 where
  pub within : HeadWithin h
  pub long : 2560 ≤ length ws

-- and each of its curves starts low enough that row 8's product fits
pub record CurvesKept (ws : List ℕ) (h : Head) : Type 0 where
  pub kept : Kept ws h
  pub start : (k : ℕ) → k < h.curves → entry_in ws k 0 ≤ 200000

-- and rows 7 and 27 accept its segments
pub record SegmentsKept (ws : List ℕ) (h : Head) : Type 0 where
  pub kept : Kept ws h
  pub each : (i : ℕ) → i < h.size → SegmentWithin h i (segment_in ws i)
  pub onward : (i : ℕ) → i < h.size → FollowingWithin h.size i (segment_in ws i).following
  pub chained : (i : ℕ) → i < h.size → h.version ≡ 1 → (segment_in ws i).following ≡ chain h.size i
