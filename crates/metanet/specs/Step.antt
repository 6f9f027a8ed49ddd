-- One step of a case. Every right side uses values from before the step, save the rates, releases and flows that this step itself
-- makes. Differences are of natural numbers: in a sound case none would be below 0 (release ≤ w + d, exit part ≤ outflow ≤ N).
use Rattle.std.specs.Prelude.{ℕ, suc, ◌+◌, ◌-◌, ◌*◌, ◌%◌, Bool, cond, not, ◌&&◌, List, ltb, eqb, Float}
use Rattle.std.proofs.Math.ListN.{get_or}
use Rattle.std.specs.Float.Ieee.{to_unsigned}
use Rattle.laws.specs.Lists.{table}
use Rattle.laws.specs.Sums.{sum_of}
use Rattle.laws.specs.Real.{real, ◌⊘◌}
use Rattle.format.specs.declared.Head.{Head}
use Rattle.format.specs.declared.Segment.{Segment}
use Rattle.format.specs.Network.{Network, entry_of, segment_of, has_before}
use Rattle.metanet.specs.declared.SignSetting.{SignSetting}
use Rattle.metanet.specs.declared.Ramp.{Ramp}
use Rattle.metanet.specs.declared.Flows.{Flows}
use Rattle.metanet.specs.declared.SegmentState.{SegmentState}
use Rattle.metanet.specs.declared.Entry.{Entry}
use Rattle.metanet.specs.declared.Neighbours.{Neighbours}
use Rattle.metanet.specs.declared.Sign.{Sign}
use Rattle.metanet.specs.declared.Sign.TheVariants.{Dark, Shown}
use Rattle.metanet.specs.Case.{Case, open_kind, alinea_kind, state_of}
use Rattle.metanet.specs.Flow.{alinea_rate, jam_bound, sign_speed, limiting_speed, speed_bound, release_of, outflow_of, remainder_of, exit_part}
use Rattle.metanet.specs.Speed.{area, curve_speed, under_sign, new_speed}
use Rattle.metanet.specs.Junction.{to_first, to_second, reaching, gathered, entry_speed, two_after, density_ahead}

-- ---- one segment, from its own state

-- density ρ is N ÷ G
unfoldable pub density : Segment → SegmentState → Float
density s r = real r.count ⊘ real (area s)

-- a sign is dark, or shows its speed, carried in binary64
unfoldable pub sign_of : SignSetting → Sign
sign_of r = cond (eqb r.limit 0) Dark (Shown (real (sign_speed r)))

-- the desired speed V on a curve with the entries e, under the state's sign
unfoldable pub desired_speed : (ℕ → ℕ) → Segment → SegmentState → Float
unfolding sign_of
desired_speed e s r = under_sign (curve_speed e r.count (area s)) (sign_of r.sign)

-- the rate R as reported: Q where open
unfoldable pub rate_of : ℕ → Ramp → ℕ
rate_of most r = cond (eqb r.kind open_kind) most r.rate

-- 1. an ALINEA ramp moves its rate when z divides t and m is not 0 (F-4)
unfoldable pub moves : Ramp → ℕ → Bool
moves r t = eqb r.kind alinea_kind && (eqb (t % r.interval) 0 && not (eqb r.summed 0))

-- the rate that this step makes
unfoldable pub rate_now : Segment → Ramp → ℕ → ℕ
unfolding rate_of
rate_now s r t = cond (moves r t) (alinea_rate r s.most (area s)) (rate_of s.most r)

-- S or m, as x: it becomes 0 when the rate moves; then, in every step of an ALINEA ramp, it grows by k
unfoldable pub added_up : Ramp → ℕ → ℕ → ℕ → ℕ
added_up r t x k = cond (eqb r.kind alinea_kind) (cond (moves r t) 0 x + k) x

-- the ramp after the step with n mv in the segment before it: its setting stays, S grows by N and m by 1
unfoldable pub ramp_now : Segment → ℕ → Ramp → ℕ → Ramp
unfolding rate_now added_up
ramp_now s n r t =
    record {
      kind = r.kind;
      rate = rate_now s r t;
      target = r.target;
      gain = r.gain;
      least = r.least;
      interval = r.interval;
      sum = added_up r t r.sum n;
      summed = added_up r t r.summed 1;
    }

-- s is the whole part of v
abbrev pub whole_speed : SegmentState → ℕ
whole_speed r = to_unsigned 64 r.speed

-- 2. what bounds an origin, on a curve with the entries e: a mainstream one is bounded by speed, any other by the jam density
unfoldable pub origin_bound : Bool → Head → (ℕ → ℕ) → Segment → SegmentState → ℕ
unfolding limiting_speed speed_bound
origin_bound mainstream h e s r =
    cond mainstream
    (speed_bound h e s (limiting_speed (whole_speed r) r.sign))
    (jam_bound s.most s.jam s.critical (area s) r.count)

-- release = least of w + d; R; that bound
unfoldable pub release_now : Segment → SegmentState → ℕ → ℕ → ℕ → ℕ
unfolding rate_now
release_now s r t d bound = release_of (r.queue + d) (rate_now s r.ramp t) bound

-- 3. the outflow
unfoldable pub outflow_now : Head → Segment → SegmentState → ℕ
outflow_now h s r = outflow_of r.count (whole_speed r) h.step s.metres r.flows.remainder

-- and the new remainder b (F-8)
unfoldable pub remainder_now : Head → Segment → SegmentState → ℕ
remainder_now h s r = remainder_of r.count (whole_speed r) h.step s.metres r.flows.remainder

-- the flows that this step makes
unfoldable pub flows_now : Head → Segment → SegmentState → ℕ → ℕ → ℕ → Flows
unfolding release_now outflow_now remainder_now
flows_now h s r t d bound = record { outflow = outflow_now h s r; remainder = remainder_now h s r; release = release_now s r t d bound }

-- all the rest goes on
unfoldable pub through : Head → Segment → SegmentState → ℕ
unfolding outflow_now
through h s r = outflow_now h s r - exit_part (outflow_now h s r) s.exit

-- the new state, from what is around the segment
unfoldable pub new_state : Head → Segment → ℕ → SegmentState → ℕ → ℕ → Bool → Neighbours → SegmentState
unfolding density ramp_now flows_now
new_state h s f r t d on_ramp o =
    record {
      -- 4. N + release + what the segments before pass on − outflow
      count = r.count + release_now s r t d o.bound + o.passed - outflow_now h s r;
      -- w + d − release
      queue = r.queue + d - release_now s r t d o.bound;
      sign = r.sign;
      ramp = ramp_now s r.count r.ramp t;
      flows = flows_now h s r t d o.bound;
      speed =
          new_speed h s f
          (record { count = r.count; queue = r.queue; speed = r.speed; density = density s r; before = o.before; after = o.after })
          o.want on_ramp (release_now s r t d o.bound);
    }

-- ---- all segments, from their states

-- mv in a segment and its queue
abbrev pub vehicles_in : List SegmentState → ℕ → ℕ
vehicles_in states i = (state_of states i).count + (state_of states i).queue

-- ---- all segments, on a network with the head h, the entries entry k j and the segments segment i

module _ (h : Head) (entry : ℕ → ℕ → ℕ) (segment : ℕ → Segment) where
  -- F is the first entry of the segment's curve
  abbrev pub free_speed : ℕ → ℕ
  free_speed i = entry (segment i).curve 0

  -- the two numbers that segment i goes on to, and what of its rest goes to each
  abbrev pub first_way : ℕ → ℕ
  first_way i = (segment i).following.first

  abbrev pub second_way : ℕ → ℕ
  second_way i = (segment i).following.second

  abbrev pub out_at : List SegmentState → ℕ → ℕ
  out_at states i = outflow_now h (segment i) (state_of states i)

  abbrev pub rest_at : List SegmentState → ℕ → ℕ
  rest_at states i = through h (segment i) (state_of states i)

  abbrev pub first_at : List SegmentState → ℕ → ℕ
  first_at states i = to_first (rest_at states i) (segment i).following.share

  abbrev pub second_at : List SegmentState → ℕ → ℕ
  second_at states i = to_second (rest_at states i) (segment i).following.share

  -- all that enters number d from the segments below k
  abbrev pub entering : List SegmentState → ℕ → ℕ → Entry
  entering states d k = gathered first_way second_way (first_at states) (second_at states) (out_at states) (λ i. (state_of states i).speed) d k

  -- what is passed on to number d: one sum over all segments
  abbrev pub passed_to : List SegmentState → ℕ → ℕ
  passed_to states d = reaching first_way second_way (first_at states) (second_at states) h.size d

  -- what enters segment i
  unfoldable pub inflow : List SegmentState → ℕ → ℕ
  unfolding through reaching
  inflow states i = passed_to states (suc i)

  -- u
  unfoldable pub upstream : List SegmentState → ℕ → Float
  unfolding through gathered entry_speed
  upstream states i = entry_speed (entering states (suc i) h.size) (state_of states i).speed

  -- the density of number k
  abbrev pub density_at : List SegmentState → ℕ → Float
  density_at states k = density (segment (k - 1)) (state_of states (k - 1))

  -- ρ'; with no follower it is ρ if N < C × G, else C
  unfoldable pub downstream : List SegmentState → ℕ → Float
  unfolding density
  downstream states i =
      density_ahead (segment i).following
      (cond (ltb (state_of states i).count ((segment i).critical * area (segment i))) (density (segment i) (state_of states i)) (real (segment i).critical))
      (density_at states)

  -- the origin of a segment with none before it is mainstream, any other is a ramp
  abbrev pub mainstream : ℕ → Bool
  mainstream i = not (has_before segment h.size i)

  -- E only at a ramp
  abbrev pub on_ramp : ℕ → Bool
  on_ramp i = eqb (segment i).origin 1 && has_before segment h.size i

  abbrev pub neighbours : List SegmentState → ℕ → Neighbours
  neighbours states i =
      record {
        passed = inflow states i;
        before = upstream states i;
        after = downstream states i;
        want = desired_speed (entry (segment i).curve) (segment i) (state_of states i);
        bound = origin_bound (mainstream i) h (entry (segment i).curve) (segment i) (state_of states i);
      }

  -- t is the number of steps on the line so far, ds are the arrivals
  unfoldable pub step_state : List SegmentState → ℕ → List ℕ → ℕ → SegmentState
  unfolding new_state inflow upstream downstream desired_speed origin_bound
  step_state states t ds i = new_state h (segment i) (free_speed i) (state_of states i) t (get_or ds i 0) (on_ramp i) (neighbours states i)

  -- the states after the step
  unfoldable pub step_states : List SegmentState → ℕ → List ℕ → List SegmentState
  unfolding step_state table
  step_states states t ds = table (step_state states t ds) h.size

  -- ---- totals
  -- the exit part of segment i
  abbrev pub exit_now : List SegmentState → ℕ → ℕ
  exit_now states i = exit_part (outflow_now h (segment i) (state_of states i)) (segment i).exit

  -- all exit parts, and what is passed on to none
  abbrev pub exits_now : List SegmentState → ℕ
  exits_now states = sum_of (exit_now states) h.size + passed_to states 0

  -- 6. time spent grows by T × (mv in segments + queues before the step); arrivals and exits add up
  unfoldable pub step_on : Case → List ℕ → Case
  unfolding step_states sum_of inflow outflow_now through reaching two_after density_ahead has_before
  step_on c ds =
      record {
        states = step_states c.states c.steps ds;
        steps = c.steps + 1;
        arrivals = c.arrivals + sum_of (λ i. get_or ds i 0) h.size;
        exits = c.exits + exits_now c.states;
        time = c.time + h.step * sum_of (vehicles_in c.states) h.size;
      }

-- one step of a case on a network
abbrev pub step_case : Network → Case → List ℕ → Case
step_case w = step_on w.head (entry_of w) (segment_of w)

-- segment i of a network has a ramp
abbrev pub ramp_at : Network → ℕ → Bool
ramp_at w = on_ramp w.head (entry_of w) (segment_of w)

-- mv in segments and queues
abbrev pub total_of : Network → Case → ℕ
total_of w c = sum_of (vehicles_in c.states) w.head.size
