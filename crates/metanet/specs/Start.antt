-- What Start makes of its lists: the case that it puts in, and the rows of the table that judge them.
use Rattle.std.specs.Prelude.{ℕ, ◌+◌, ◌*◌, ◌&&◌, not, List, [], ◌∷◌, ltb, eqb, length, get_or}
use Rattle.laws.specs.First.{any_of, outside, row, first_of}
use Rattle.laws.specs.Lists.{table}
use Rattle.laws.specs.Real.{real}
use Rattle.laws.specs.Sums.{sum_of}
use Rattle.format.specs.declared.Segment.{Segment}
use Rattle.format.specs.Network.{Network, entry_of, segment_of}
use Rattle.metanet.specs.declared.SegmentState.{SegmentState}
use Rattle.metanet.specs.Case.{Case, open_state}
use Rattle.metanet.specs.Speed.{area}

-- ---- the case: all ramps open, signs dark, flows and totals 0

unfoldable pub start_state : Network → List ℕ → List ℕ → List ℕ → ℕ → SegmentState
start_state w mvs speeds queues i = open_state (get_or mvs i 0) (get_or queues i 0) (segment_of w i).most (real (get_or speeds i 0))

unfoldable pub start_case : Network → List ℕ → List ℕ → List ℕ → Case
unfolding start_state
start_case w mvs speeds queues =
    record { states = table (start_state w mvs speeds queues) w.head.size; steps = 0; arrivals = 0; exits = 0; time = 0 }

-- mv handed to Start: in segments and in queues
abbrev pub handed : Network → List ℕ → List ℕ → ℕ
handed w mvs queues = sum_of (λ i. get_or mvs i 0) w.head.size + sum_of (λ i. get_or queues i 0) w.head.size

-- ---- 13 list length not n; 14 mv > J × G, speed outside 1,000..F, queue > 1,000,000 or not 0 without origin

-- 14, of segment i, counted from 0; F is the first entry of its curve
unfoldable pub start_segment_number : Segment → ℕ → ℕ → ℕ → ℕ → ℕ
start_segment_number s F mv speed queue =
    row (any_of (ltb (s.jam * area s) mv ∷ outside 1000 speed F ∷ ltb 1000000 queue ∷ (eqb s.origin 0 && ltb 0 queue) ∷ [])) 14 0

unfoldable pub start_number : Network → List ℕ → List ℕ → List ℕ → ℕ
unfolding start_segment_number
start_number w mvs speeds queues =
    let n = w.head.size in
    row (any_of (not (eqb (length mvs) n) ∷ not (eqb (length speeds) n) ∷ not (eqb (length queues) n) ∷ [])) 13
    (first_of (λ i. start_segment_number (segment_of w i) (entry_of w (segment_of w i).curve 0) (get_or mvs i 0) (get_or speeds i 0) (get_or queues i 0)) n)
