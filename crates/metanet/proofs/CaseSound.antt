-- A case is sound where each of its states is and its totals are within their bounds; and the other way for its states.
use Prim.Native.Nat.{ℕ, ◌*◌, ◌≤◌, ◌<◌}
use mathlib.Core.Path.{◌≡◌, ap, ◌∙◌}
use mathlib.Core.Bool.{Bool, false}
use mathlib.Core.List.{List, [], ◌∷◌}
use borrow.Author.Tests.{ltb-false, le-ltb, lt-leb}
use Rattle.laws.specs.First.{any_of, row, first_of}
use Rattle.laws.specs.Sums.{sum_of}
use Rattle.laws.proofs.First.{row_passed, row_skipped, first_zero, first_zero_left, first_of-zero, first_of_all, first_of_ext}
use Rattle.laws.proofs.Tests.{any_of_false}
use Rattle.format.specs.declared.Head.{Head}
use Rattle.format.specs.declared.Segment.{Segment}
use Rattle.metanet.specs.declared.SegmentState.{SegmentState}
use Rattle.metanet.specs.Case.{Case, state_of}
use Rattle.metanet.specs.Step.{vehicles_in, free_speed, on_ramp}
use Rattle.metanet.specs.Sound.{mv_most, time_most, steps_most, sign_bad, setting_bad, average_bad, speed_bad, state_bad, totals_bad, state_number, case_number, flows_bad}
use Rattle.metanet.specs.declared.Flows.{Flows}
use Rattle.metanet.proofs.Balance.{FlowsWithin}
use Rattle.metanet.proofs.InWords.{mean_number}

-- ---- a state

-- what a state that is not bad says, but for S and m
pub record StateSound (m : Bool) (s : Segment) (f : ℕ) (r : SegmentState) : Type 0 where
  pub count : r.count ≤ mv_most
  pub queue : r.queue ≤ mv_most
  pub flows : flows_bad s r.flows ≡ false
  pub sign : sign_bad r.sign ≡ false
  pub setting : setting_bad m s.most r.ramp ≡ false
  pub speed : speed_bad f r.speed ≡ false

pub flows_sound : (s : Segment) {r : Flows} → FlowsWithin r mv_most → r.remainder < 3600 * s.metres → flows_bad s r ≡ false
unfolding flows_bad any_of
flows_sound s {r} a small =
    let outflow = le-ltb mv_most r.outflow a.outflow in
    let release = le-ltb mv_most r.release a.release in
    let remainder = lt-leb (3600 * s.metres) r.remainder small in
    λ j. any_of (outflow j ∷ release j ∷ remainder j ∷ [])

module _ (m : Bool) (s : Segment) (f : ℕ) (r : SegmentState) where
  pub state_says : state_bad m s f r ≡ false → StateSound m s f r
  unfolding state_bad
  state_says z =
      let no = any_of_false _ z in
      record { count = ltb-false _ _ (no 0); queue = ltb-false _ _ (no 1); flows = no 2; sign = no 3; setting = no 5; speed = no 4 }

  pub state_mean : state_bad m s f r ≡ false → average_bad r.ramp.sum r.ramp.summed ≡ false
  unfolding state_bad
  state_mean z = any_of_false _ z 6

  -- such a state is bad exactly where S or m is
  pub state-sound : StateSound m s f r → state_bad m s f r ≡ average_bad r.ramp.sum r.ramp.summed
  unfolding state_bad any_of
  state-sound a =
      let count = le-ltb mv_most r.count a.count in
      let queue = le-ltb mv_most r.queue a.queue in
      λ j. any_of (count j ∷ queue j ∷ a.flows j ∷ a.sign j ∷ a.speed j ∷ a.setting j ∷ average_bad r.ramp.sum r.ramp.summed ∷ [])

-- S and m of state i of a case are within their bounds
abbrev pub MeanAt : List SegmentState → ℕ → Type 0
MeanAt states i = average_bad (state_of states i).ramp.sum (state_of states i).ramp.summed ≡ false

-- ---- a case, on a network with the head h, the entries entry k j and the segments segment i

module _ (h : Head) (entry : ℕ → ℕ → ℕ) (segment : ℕ → Segment) where
  -- state i of a case is sound, but for S and m
  abbrev pub SoundAt : List SegmentState → ℕ → Type 0
  SoundAt states i = StateSound (on_ramp h entry segment i) (segment i) (free_speed h entry segment i) (state_of states i)

  passed : (c : Case) → case_number h entry segment c ≡ 0 → (i : ℕ) → i < h.size
      → state_bad (on_ramp h entry segment i) (segment i) (free_speed h entry segment i) (state_of c.states i) ≡ false
  unfolding case_number state_number
  passed c z i l = row_passed _ _ _ (first_of-zero (state_number h entry segment c.states) h.size (first_zero_left _ _ z) i l)

  pub case_state : (c : Case) → case_number h entry segment c ≡ 0 → (i : ℕ) → i < h.size → SoundAt c.states i
  case_state c z i l = state_says _ _ _ _ (passed c z i l)

  pub case_mean : (c : Case) → case_number h entry segment c ≡ 0 → (i : ℕ) → i < h.size → MeanAt c.states i
  case_mean c z i l = state_mean _ _ _ _ (passed c z i l)

  -- states that are sound but for S and m are judged by these
  pub states_mean : (states : List SegmentState) → ((i : ℕ) → i < h.size → SoundAt states i)
      → first_of (state_number h entry segment states) h.size ≡ first_of (mean_number states) h.size
  unfolding state_number mean_number
  states_mean states each =
      first_of_ext (state_number h entry segment states) (mean_number states) h.size (λ i l. ap (λ (b : Bool). row b 12 0) (state-sound _ _ _ _ (each i l)))

  means_zero : (states : List SegmentState) → ((i : ℕ) → i < h.size → MeanAt states i) → first_of (mean_number states) h.size ≡ 0
  unfolding mean_number
  means_zero states mean = first_of_all (mean_number states) h.size (λ i l. row_skipped _ _ _ (mean i l))

  pub case_sound : (c : Case) → ((i : ℕ) → i < h.size → SoundAt c.states i) → ((i : ℕ) → i < h.size → MeanAt c.states i) → sum_of (vehicles_in c.states) h.size ≤ 1000000000000
      → c.steps ≤ 20000 → c.arrivals ≤ 1000000000000 → c.exits ≤ 1000000000000 → c.time ≤ 1000000000000000000
      → case_number h entry segment c ≡ 0
  unfolding case_number totals_bad any_of
  case_sound c states means held steps arrivals exits time =
      let held = le-ltb mv_most (sum_of (vehicles_in c.states) h.size) held in
      let steps = le-ltb steps_most c.steps steps in
      let arrivals = le-ltb mv_most c.arrivals arrivals in
      let exits = le-ltb mv_most c.exits exits in
      let time = le-ltb time_most c.time time in
      first_zero _ _ (states_mean c.states states ∙ means_zero c.states means)
      ∙ row_skipped _ _ _ (λ j. any_of (held j ∷ arrivals j ∷ exits j ∷ time j ∷ steps j ∷ []))
