-- A step of any sound case: its states are sound but for S and m where all mv after it are within their bound, and so it is judged by S, m
-- and its totals alone.
use Prim.Native.Nat.{ℕ, ◌+◌, ◌≤◌, ◌<◌}
use mathlib.Core.Path.{◌≡◌, refl, sym, ap, ◌∙◌}
use mathlib.Core.Bool.{Bool, true, false}
use mathlib.Core.List.{List}
use native.Mathlib.Omega.{arith}
use lib.Dec.{ltb}
use lib.ListN.{get_or}
use borrow.Author.Tests.{ltb-false, leb-false}
use Rattle.laws.specs.First.{any_of, or_from, row, first, first_of}
use Rattle.laws.specs.Sums.{sum_of}
use Rattle.laws.proofs.First.{row_applies, row_passed, row_later, first_zero_left, first_zero_right, first_of-zero, all_same}
use Rattle.laws.proofs.Sums.{sum_high}
use Rattle.laws.proofs.Tests.{or_left, any_of_false}
use Rattle.format.specs.declared.Head.{Head}
use Rattle.format.specs.declared.Segment.{Segment}
use Rattle.format.proofs.Accepted.{RowsWithin}
use Rattle.metanet.specs.declared.SegmentState.{SegmentState}
use Rattle.metanet.specs.Case.{Case, state_of}
use Rattle.metanet.specs.Step.{vehicles_in, free_speed, on_ramp, step_state, step_states, exits_now, step_on, new_state, ramp_now}
use Rattle.metanet.specs.Sound.{mv_most, average_bad, state_bad, totals_bad, state_number, case_number, arrival_number, step_number}
use Rattle.metanet.proofs.InWords.{mean_number}
use Rattle.metanet.proofs.Ready.{SegmentOk, StateOk}
use Rattle.metanet.proofs.SegmentLaws.{segment_ok}
use Rattle.metanet.proofs.SoundLaws.{state_ok}
use Rattle.metanet.proofs.Formed.{setting_kept, within_good}
use Rattle.metanet.proofs.Balance.{FiguresWithin, new_is, balance, figures_within, new_flowing}
use Rattle.metanet.proofs.CaseSound.{SoundAt, case_state, case_mean, state-sound, states_mean, flows_sound}

-- the totals of a case of n segments pass their bounds
abbrev case_bad : ℕ → Case → Bool
case_bad n c = totals_bad (sum_of (vehicles_in c.states) n) c.steps c.arrivals c.exits c.time

-- what a step of it can spoil: 12 where S or m of a ramp, or the totals, pass their bounds
abbrev pub judged_again : ℕ → Case → ℕ
judged_again n c = first (first_of (mean_number c.states) n) (row (case_bad n c) 12 0)

module _ (h : Head) (entry : ℕ → ℕ → ℕ) (segment : ℕ → Segment) (c : Case) where
  -- this judges a case whose states are sound but for S and m
  judged_by : ((i : ℕ) → i < h.size → SoundAt h entry segment c.states i) → case_number h entry segment c ≡ judged_again h.size c
  unfolding case_number
  judged_by each = ap (λ (m : ℕ). first m (row (case_bad h.size c) 12 0)) (states_mean h entry segment c.states each)

  module _ (z : case_number h entry segment c ≡ 0) where
    -- a sound case's states are as a step asks
    pub states_ok : (i : ℕ) → i < h.size → StateOk (segment i) (free_speed h entry segment i) (state_of c.states i)
    states_ok i k =
        state_ok (segment i) (state_of c.states i) (on_ramp h entry segment i) _
        (state-sound _ _ _ _ (case_state h entry segment c z i k) ∙ case_mean h entry segment c z i k)

    pub case_again : judged_again h.size c ≡ 0
    case_again = sym (judged_by (case_state h entry segment c z)) ∙ z

    pub total_within : sum_of (vehicles_in c.states) h.size ≤ mv_most
    unfolding totals_bad
    total_within = ltb-false _ _ (any_of_false _ (row_passed _ _ _ (first_zero_right (first_of (mean_number c.states) h.size) _ case_again)) 0)

-- more mv in all than may be
over : (vehicles steps arrivals exits time : ℕ) → ltb mv_most vehicles ≡ true → totals_bad vehicles steps arrivals exits time ≡ true
unfolding totals_bad any_of or_from
over vehicles steps arrivals exits time e = rw e

-- ---- what the rows 15 and 16 say

module _ {h : Head} {entry : ℕ → ℕ → ℕ} {segment : ℕ → Segment} (within : RowsWithin h entry segment)
    (ds : List ℕ) (steps : ℕ) (z : step_number h entry segment steps ds ≡ 0) where
  arrival_le : (i : ℕ) → i < h.size → get_or ds i 0 ≤ 1000000
  unfolding step_number arrival_number
  arrival_le i l =
      ltb-false _ _ (or_left (ltb 1000000 (get_or ds i 0)) _ (row_passed _ _ _ (first_of-zero (arrival_number h entry segment ds) h.size (first_zero_left _ _ (row_later _ _ _ z)) i l)))

  pub came_le : sum_of (λ i. get_or ds i 0) h.size ≤ 40000000
  came_le = omega (arith, sum_high (λ i. get_or ds i 0) 1000000 h.size arrival_le, within.head.size_high)

  pub steps_left : steps < 20000
  unfolding step_number
  steps_left = leb-false _ _ (row_passed _ _ _ (first_zero_right (first_of (arrival_number h entry segment ds) h.size) _ (row_later _ _ _ z)))

-- ---- a step of a sound case

module _ {h : Head} {entry : ℕ → ℕ → ℕ} {segment : ℕ → Segment} (within : RowsWithin h entry segment)
    (c : Case) (fine : case_number h entry segment c ≡ 0) (ds : List ℕ) where
  abbrev new : List SegmentState
  new = step_states h entry segment c.states c.steps ds

  abbrev held : ℕ
  held = sum_of (vehicles_in new) h.size

  old_state : (i : ℕ) → i < h.size → SoundAt h entry segment c.states i
  old_state = case_state h entry segment c fine

  segments_ok : (i : ℕ) → i < h.size → SegmentOk h (segment i) (free_speed h entry segment i)
  segments_ok = segment_ok within

  pub moved : held + exits_now h entry segment c.states ≡ sum_of (vehicles_in c.states) h.size + sum_of (λ i. get_or ds i 0) h.size
  moved = balance h entry segment c.states c.steps ds segments_ok (states_ok h entry segment c fine)

  -- not much more than a sound case may have, where the arrivals are such as 15 permits
  pub held_le : (steps : ℕ) → step_number h entry segment steps ds ≡ 0 → held ≤ 1000040000000
  held_le steps z = omega (arith, moved, total_within h entry segment c fine, came_le within ds steps z)

  pub new_state_lem : held ≤ mv_most → (i : ℕ) → i < h.size → SoundAt h entry segment new i
  unfolding step_state new_state
  new_state_lem high i k =
      let m = on_ramp h entry segment i in
      let r = state_of c.states i in
      let is = new_is h entry segment c.states c.steps ds i k in
      let old = old_state i k in
      let figures : FiguresWithin (state_of new i) mv_most = figures_within h entry segment c.states c.steps ds segments_ok (states_ok h entry segment c fine) i high k in
      let flowing = new_flowing h entry segment c.states c.steps ds segments_ok i k in
      record {
        count = figures.count;
        queue = figures.queue;
        flows = flows_sound (segment i) figures.flows flowing.remainder;
        sign = rw is old.sign;
        setting = rw is (setting_kept (segment i) r.count r.ramp c.steps m old.setting);
        speed = within_good (free_speed h entry segment i) _ flowing.speed;
      }

  pub new_ramp : (i : ℕ) → i < h.size → let r = state_of c.states i in (state_of new i).ramp ≡ ramp_now (segment i) r.count r.ramp c.steps
  unfolding step_state new_state
  new_ramp i k = ap (λ (r : SegmentState). r.ramp) (new_is h entry segment c.states c.steps ds i k)

  abbrev after : Case
  after = step_on h entry segment c ds

  states_twelve : (n : ℕ) → first (first_of (state_number h entry segment new) n) 12 ≡ 12
  unfolding state_number
  states_twelve = all_same 12 (λ i. state_bad (on_ramp h entry segment i) (segment i) (free_speed h entry segment i) (state_of new i))

  means_twelve : (n : ℕ) → first (first_of (mean_number new) n) 12 ≡ 12
  unfolding mean_number
  means_twelve = all_same 12 (λ i. average_bad (state_of new i).ramp.sum (state_of new i).ramp.summed)

  -- 12 of the case after the step
  pub step_judged : case_number h entry segment after ≡ judged_again h.size after
  unfolding case_number step_on
  step_judged = go (ltb mv_most held) refl
    where
      go : (b : Bool) → ltb mv_most held ≡ b → case_number h entry segment after ≡ judged_again h.size after
      go true e =
          let last = row_applies (case_bad h.size after) 12 0 (over held after.steps after.arrivals after.exits after.time e) in
          ap (first (first_of (state_number h entry segment new) h.size)) last
          ∙ states_twelve h.size
          ∙ sym (ap (first (first_of (mean_number new) h.size)) last ∙ means_twelve h.size)
      go false e = judged_by h entry segment after (new_state_lem (ltb-false mv_most held e))
