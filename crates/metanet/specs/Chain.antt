-- A chain, which is what a version 1 file means: what F-3 says of it is what document 01 says, and as version 2 it steps alike.
use Rattle.std.specs.Prelude.{ℕ, suc, ◌+◌, ◌<◌, ◌≡◌, List, eqb}
use Rattle.laws.specs.Sums.{sum_of}
use Rattle.format.specs.declared.Head.{Head}
use Rattle.format.specs.declared.Segment.{Segment}
use Rattle.format.specs.Network.{Network, entry_of, segment_of, chain, rows_number}
use Rattle.metanet.specs.declared.SegmentState.{SegmentState}
use Rattle.metanet.specs.Case.{Case, state_of}
use Rattle.metanet.specs.Step.{density, through, inflow, upstream, downstream, mainstream, exit_now, exits_now}
use Rattle.metanet.specs.Line.{Line, case_of}

-- the sentences of document 01, of a network whose segments follow one another; segments are counted from 0
pub record AsChain (h : Head) (entry : ℕ → ℕ → ℕ) (segment : ℕ → Segment) (states : List SegmentState) : Type 0 where
  -- all the rest enters the next segment
  pub enters_first : 0 < h.size → inflow h entry segment states 0 ≡ 0
  pub enters_next : (i : ℕ) → suc i < h.size → inflow h entry segment states (suc i) ≡ through h (segment i) (state_of states i)
  -- or leaves after segment n
  pub leaves : (m : ℕ) → h.size ≡ suc m → exits_now h entry segment states ≡ sum_of (exit_now h entry segment states) h.size + through h (segment m) (state_of states m)
  -- u is v of the segment before, v itself at segment 1
  pub before_first : 0 < h.size → upstream h entry segment states 0 ≡ (state_of states 0).speed
  pub before_next : (i : ℕ) → suc i < h.size → upstream h entry segment states (suc i) ≡ (state_of states i).speed
  -- ρ' is the density of the next segment
  pub ahead : (i : ℕ) → i + 1 < h.size → downstream h entry segment states i ≡ density (segment (i + 1)) (state_of states (i + 1))
  -- the origin of segment 1 is mainstream, and no other
  pub begins : (i : ℕ) → i < h.size → mainstream h entry segment i ≡ eqb i 0

abbrev pub ChainMeans : Type 0
ChainMeans =
    (h : Head) (entry : ℕ → ℕ → ℕ) (segment : ℕ → Segment) → ((i : ℕ) → i < h.size → (segment i).following ≡ chain h.size i)
    → (states : List SegmentState) → AsChain h entry segment states

-- the same network as version 2: its records name the followers that version 1 means
abbrev pub as_version2 : Network → Network
as_version2 w =
    let h = w.head in
    record {
      head = record { version = 2; step = h.step; size = h.size; curves = h.curves; tau = h.tau; nu = h.nu; kappa = h.kappa; delta = h.delta };
      curves = w.curves;
      segments = w.segments;
    }

-- no row refuses it either, and every line gives the same case
pub record StepsAlike (w : Network) : Type 0 where
  pub accepted : rows_number (as_version2 w).head (entry_of w) (segment_of w) ≡ 0
  pub alike : (c : Case) (l : Line) → case_of (as_version2 w) c l ≡ case_of w c l

abbrev pub VersionsAlike : Type 0
VersionsAlike = (w : Network) → rows_number w.head (entry_of w) (segment_of w) ≡ 0 → w.head.version ≡ 1 → StepsAlike w
