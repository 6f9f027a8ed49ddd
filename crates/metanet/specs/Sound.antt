-- A sound case, and the rows of the table that judge a step on it: 12, 13, 15 and 16.
use Rattle.std.specs.Prelude.{ℕ, ◌*◌, Bool, true, cond, not, ◌&&◌, ◌||◌, List, [], ◌∷◌, ltb, leb, eqb, length, get_or, Float}
use Rattle.std.specs.Float.Ieee.{le}
use Rattle.laws.specs.First.{outside, any_of, row, first, first_of}
use Rattle.laws.specs.Real.{real}
use Rattle.laws.specs.Sums.{sum_of}
use Rattle.format.specs.declared.Head.{Head}
use Rattle.format.specs.declared.Segment.{Segment}
use Rattle.metanet.specs.declared.SignSetting.{SignSetting}
use Rattle.metanet.specs.declared.Ramp.{Ramp}
use Rattle.metanet.specs.declared.Flows.{Flows}
use Rattle.metanet.specs.declared.SegmentState.{SegmentState}
use Rattle.metanet.specs.Case.{Case, open_kind, fixed_kind, alinea_kind, state_of}
use Rattle.metanet.specs.Step.{vehicles_in, free_speed, on_ramp}

-- every mv figure and each case's mv in all ≤ 10¹², time ≤ 10¹⁸, steps ≤ 20,000; of the average (F-4) m ≤ 60, S ≤ 60 × 10¹²
abbrev pub mv_most : ℕ
mv_most = 1000000000000

abbrev pub summed_most : ℕ
summed_most = 60

abbrev pub sum_most : ℕ
sum_most = 60000000000000

abbrev pub time_most : ℕ
time_most = 1000000000000000000

abbrev pub steps_most : ℕ
steps_most = 20000

-- ---- signs, settings and rates as their calls permit; most is Q

-- a dark sign keeps no compliance; a shown one has a limit of 20..200 and a compliance of −500..500, kept with 500 added
unfoldable pub sign_bad : SignSetting → Bool
sign_bad r = cond (eqb r.limit 0) (ltb 0 r.compliance) (outside 20 r.limit 200 || ltb 1000 r.compliance)

-- the figures of a setting that only ALINEA has
unfoldable pub has_alinea : Ramp → Bool
has_alinea r =
    any_of
    (ltb 0 r.target
    ∷ ltb 0 r.gain
    ∷ ltb 0 r.least
    ∷ ltb 0 r.interval
    ∷ ltb 0 r.sum
    ∷ ltb 0 r.summed
    ∷ [])

-- open: R is Q, and the figures that only ALINEA has are 0
unfoldable pub open_bad : ℕ → Ramp → Bool
unfolding has_alinea
open_bad most r = has_alinea r || not (eqb r.rate most)

-- fixed at 0..Q, and the figures that only ALINEA has are 0
unfoldable pub fixed_bad : ℕ → Ramp → Bool
unfolding has_alinea
fixed_bad most r = has_alinea r || ltb most r.rate

-- target 1..199, gain 1..60,000 mv, least 0..Q, z 1..60 steps, R in least..Q
unfoldable pub alinea_bad : ℕ → Ramp → Bool
alinea_bad most r =
    any_of
    (outside 1 r.target 199
    ∷ outside 1 r.gain 60000
    ∷ ltb most r.least
    ∷ outside 1 r.interval 60
    ∷ outside r.least r.rate most
    ∷ [])

-- only an origin with a segment before it is metered: m says whether segment i has one. Every code is one that the arrangement names
unfoldable pub setting_bad : Bool → ℕ → Ramp → Bool
unfolding open_bad fixed_bad alinea_bad
setting_bad m most r =
    cond (eqb r.kind open_kind) (open_bad most r)
    (cond (eqb r.kind fixed_kind) (not m || fixed_bad most r)
    (cond (eqb r.kind alinea_kind) (not m || alinea_bad most r) true))

-- S and m of an ALINEA ramp (F-4)
unfoldable pub average_bad : ℕ → ℕ → Bool
average_bad sum summed = ltb sum_most sum || ltb summed_most summed

-- mv figures; b is below 3600 × L (F-8)
unfoldable pub flows_bad : Segment → Flows → Bool
flows_bad s r = any_of (ltb mv_most r.outflow ∷ ltb mv_most r.release ∷ leb (3600 * s.metres) r.remainder ∷ [])

-- speeds in 1,000..F
unfoldable pub speed_bad : ℕ → Float → Bool
speed_bad f v = not (le (real 1000) v && le v (real f))

-- one segment's part of a case
unfoldable pub state_bad : Bool → Segment → ℕ → SegmentState → Bool
unfolding flows_bad sign_bad speed_bad setting_bad average_bad
state_bad m s f r =
    any_of
    (ltb mv_most r.count
    ∷ ltb mv_most r.queue
    ∷ flows_bad s r.flows
    ∷ sign_bad r.sign
    ∷ speed_bad f r.speed
    ∷ setting_bad m s.most r.ramp
    ∷ average_bad r.ramp.sum r.ramp.summed
    ∷ [])

-- vehicles: the mv in segments and queues
unfoldable pub totals_bad : ℕ → ℕ → ℕ → ℕ → ℕ → Bool
totals_bad vehicles steps arrivals exits time =
    any_of
    (ltb mv_most vehicles
    ∷ ltb mv_most arrivals
    ∷ ltb mv_most exits
    ∷ ltb time_most time
    ∷ ltb steps_most steps
    ∷ [])

-- ---- on a network with the head h, the entries entry k j and the segments segment i

module _ (h : Head) (entry : ℕ → ℕ → ℕ) (segment : ℕ → Segment) where
  -- 12, of state i of a case
  unfoldable pub state_number : List SegmentState → ℕ → ℕ
  unfolding state_bad
  state_number states i = row (state_bad (on_ramp h entry segment i) (segment i) (free_speed h entry segment i) (state_of states i)) 12 0

  -- 12 case not sound
  unfoldable pub case_number : Case → ℕ
  unfolding state_number totals_bad
  case_number c =
      first (first_of (state_number c.states) h.size) (row (totals_bad (sum_of (vehicles_in c.states) h.size) c.steps c.arrivals c.exits c.time) 12 0)

  -- 15 arrival > 1,000,000 or not 0 without origin
  unfoldable pub arrival_number : List ℕ → ℕ → ℕ
  arrival_number ds i = row (ltb 1000000 (get_or ds i 0) || (eqb (segment i).origin 0 && ltb 0 (get_or ds i 0))) 15 0

  -- 13 list length; 15; 16 20,000 steps on the line, of which there are this many. The run count is the study's
  unfoldable pub step_number : ℕ → List ℕ → ℕ
  unfolding arrival_number
  step_number steps ds =
      row (not (eqb (length ds) h.size)) 13
      (first (first_of (arrival_number ds) h.size) (row (leb steps_most steps) 16 0))
