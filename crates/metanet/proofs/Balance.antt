-- No mv is made or lost in a step, and the new figures are within 10¹² where all mv are. For any number of segments.
use Prim.Native.Nat.{ℕ, ◌+◌, ◌≤◌, ◌<◌}
use native.Mathlib.Omega.{arith}
use mathlib.Core.Path.{◌≡◌, refl, ap}
use mathlib.Core.List.{List}
use lib.ListN.{get_or}
use Rattle.laws.specs.Sums.{sum_of}
use Rattle.laws.proofs.Lists.{get_or-table}
use Rattle.laws.proofs.Sums.{sum_ext, sum_term}
use Rattle.format.specs.declared.Head.{Head}
use Rattle.format.specs.declared.Segment.{Segment}
use Rattle.metanet.specs.declared.SegmentState.{SegmentState}
use Rattle.metanet.specs.Case.{no_state, state_of}
use Rattle.metanet.specs.Speed.{new_speed}
use Rattle.metanet.specs.Step.{new_state, release_now, outflow_now, through, inflow, free_speed, first_way, second_way, rest_at, first_at, second_at, neighbours, step_state, step_states, exit_now, exits_now, vehicles_in}
use Rattle.metanet.specs.Sound.{mv_most}
use Rattle.metanet.proofs.Ready.{SegmentOk, Flowing, StateOk}
use Rattle.metanet.proofs.SegmentLaws.{keep_within, release_waits, rate_high, release_at_most_rate, outflow_at_most_count, remainder_low, exit_le}
use Rattle.metanet.proofs.Sending.{Moves, thousandths, queues-balance}
use Rattle.metanet.specs.declared.Flows.{Flows}

-- the figures of a state that are mv
pub record FlowsWithin (r : Flows) (most : ℕ) : Type 0 where
  pub outflow : r.outflow ≤ most
  pub release : r.release ≤ most

pub record FiguresWithin (r : SegmentState) (most : ℕ) : Type 0 where
  pub count : r.count ≤ most
  pub queue : r.queue ≤ most
  pub flows : FlowsWithin r.flows most

module _ (h : Head) (entry : ℕ → ℕ → ℕ) (segment : ℕ → Segment) (states : List SegmentState) (t : ℕ) (ds : List ℕ) where
  abbrev pub new : ℕ → SegmentState
  new i = step_state h entry segment states t ds i

  abbrev out : ℕ → ℕ
  out i = outflow_now h (segment i) (state_of states i)

  abbrev pub released : ℕ → ℕ
  released i = release_now (segment i) (state_of states i) t (get_or ds i 0) (neighbours h entry segment states i).bound

  pub new_is : (i : ℕ) → i < h.size → state_of (step_states h entry segment states t ds) i ≡ new i
  unfolding step_states
  new_is i l = get_or-table (step_state h entry segment states t ds) h.size i no_state l

  -- no more is released than waits
  pub released_waits : (i : ℕ) → released i ≤ (state_of states i).queue + get_or ds i 0
  released_waits i = release_waits (segment i) (state_of states i) t (get_or ds i 0) (neighbours h entry segment states i).bound

  module _ (ok : (i : ℕ) → i < h.size → SegmentOk h (segment i) (free_speed h entry segment i)) where
    -- new speeds lie in 1,000..F, and new remainders below 3600 × L
    pub new_flowing : (i : ℕ) → i < h.size → Flowing (segment i) (free_speed h entry segment i) (state_of (step_states h entry segment states t ds) i)
    unfolding step_state new_state new_speed
    new_flowing i l =
        rw (new_is i l)
        (record { speed = keep_within (free_speed h entry segment i) (ok i l).slow (ok i l).fast _; remainder = remainder_low (ok i l) (state_of states i) })

    -- a step moves vehicles: outflow is the exit part and what goes on to the two numbers
    pub moves : ((i : ℕ) → i < h.size → Flowing (segment i) (free_speed h entry segment i) (state_of states i))
        → Moves (first_way h entry segment) (second_way h entry segment) h.size (λ i. (state_of states i).count) released out
        (exit_now h entry segment states) (first_at h entry segment states) (second_at h entry segment states) (λ i. (new i).count)
    unfolding step_state new_state inflow through
    moves flowing =
        record {
          enough = λ i l. outflow_at_most_count (ok i l) (flowing i l);
          splits = λ i l. omega (arith, exit_le (out i) (segment i).exit (ok i l).exit_high, thousandths (rest_at h entry segment states i) (segment i).following.share (ok i l).share_high);
          becomes = λ i l. refl;
        }

    module _ (row : (i : ℕ) → i < h.size → StateOk (segment i) (free_speed h entry segment i) (state_of states i)) where
      -- all segments: what is there after and what leaves is what was there before and came
      all_balance : sum_of (λ i. (new i).count + (new i).queue) h.size + exits_now h entry segment states ≡ sum_of (vehicles_in states) h.size + sum_of (λ i. get_or ds i 0) h.size
      unfolding step_state new_state
      all_balance =
          queues-balance (moves (λ i l. (row i l).flowing)) (λ i. (state_of states i).queue) (λ i. get_or ds i 0) (λ i. (new i).queue) (λ i l. (ok i l).first_high) (λ i l. (ok i l).second_high)
          (λ i l. omega (arith, released_waits i))

      held_new : sum_of (vehicles_in (step_states h entry segment states t ds)) h.size ≡ sum_of (λ i. (new i).count + (new i).queue) h.size
      held_new = sum_ext _ (λ i. (new i).count + (new i).queue) h.size (λ i l. ap (λ (r : SegmentState). r.count + r.queue) (new_is i l))

      -- total after + let out ≡ total before + arrivals
      pub balance : sum_of (vehicles_in (step_states h entry segment states t ds)) h.size + exits_now h entry segment states ≡ sum_of (vehicles_in states) h.size + sum_of (λ i. get_or ds i 0) h.size
      balance = omega (arith, held_new, all_balance)

      abbrev held : ℕ
      held = sum_of (vehicles_in (step_states h entry segment states t ds)) h.size

      -- every figure of a new state is at most 10¹² where all that is held after the step is: no more flows out than was there, and no more is
      -- released than Q
      new_figures : (i : ℕ) → held ≤ mv_most → i < h.size → FiguresWithin (new i) mv_most
      unfolding step_state new_state
      new_figures i high l =
          let there = sum_term (λ i. (new i).count + (new i).queue) h.size i l in
          let rate = rate_high (segment i) (row i l).ramp (state_of states i).count t in
          record {
            count = omega (arith, high, held_new, there);
            queue = omega (arith, high, held_new, there);
            flows =
                record {
                  outflow = omega (arith, (row i l).count, outflow_at_most_count (ok i l) (row i l).flowing);
                  release = omega (arith, rate, (ok i l).most_high, release_at_most_rate (segment i) (state_of states i) t (get_or ds i 0) (neighbours h entry segment states i).bound);
                };
          }

      pub figures_within : (i : ℕ) → held ≤ mv_most → i < h.size → FiguresWithin (state_of (step_states h entry segment states t ds) i) mv_most
      figures_within i high l = rw (new_is i l) (new_figures i high l)
