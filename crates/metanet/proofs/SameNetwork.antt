-- A step, and the rows that judge a case and a step, look at nothing of a network but what its head says is there: networks that agree on
-- that give the same.
use Prim.Native.Nat.{ℕ, suc, ◌+◌, ◌-◌, ◌*◌, ◌/◌, ◌≤◌, ◌<◌}
use mathlib.Core.Path.{◌≡◌, refl, ap, ◌∙◌}
use mathlib.Core.Bool.{Bool, true, false, cond, ◌&&◌, ◌||◌, not}
use mathlib.Core.List.{List}
use native.Mathlib.Omega.{arith}
use lib.Dec.{ltb, leb, eqb, lit<}
use lib.ListN.{length, get_or}
use lib.Ieee.{Float}
use borrow.Author.Tests.{leb-false}
use Rattle.laws.specs.First.{row, first}
use Rattle.laws.specs.Real.{real}
use Rattle.laws.specs.Sums.{sum_of}
use Rattle.laws.proofs.First.{first_of_ext}
use Rattle.laws.proofs.SomeBelow.{some_ext}
use Rattle.laws.proofs.Greatest.{greatest_ext}
use Rattle.laws.proofs.Lists.{table_ext}
use Rattle.laws.proofs.Sums.{sum_ext}
use Rattle.format.specs.declared.Head.{Head}
use Rattle.format.specs.declared.Segment.{Segment}
use Rattle.format.specs.Network.{Network, network_from, entry_of, segment_of, goes_to, has_before}
use Rattle.format.proofs.Accepted.{SegmentWithin, FollowingWithin, RowsWithin}
use Rattle.format.proofs.From.{from_entry, from_segment}
use Rattle.metanet.specs.declared.SegmentState.{SegmentState}
use Rattle.metanet.specs.declared.Entry.{Entry}
use Rattle.metanet.specs.Case.{Case, state_of}
use Rattle.metanet.specs.Flow.{limiting_speed, speed_bound, exit_part}
use Rattle.metanet.specs.Speed.{area, curve_speed, under_sign}
use Rattle.metanet.specs.Junction.{to_first, to_second, gathered, entry_speed, density_ahead}
use Rattle.metanet.specs.Step.{sign_of, desired_speed, whole_speed, density, origin_bound, mainstream, outflow_now, through, new_state, vehicles_in, first_way, second_way, out_at, first_at, second_at, entering, passed_to, density_at, upstream, inflow, downstream, free_speed, on_ramp, step_state, step_states, exit_now, exits_now, step_on, step_case, ramp_at}
use Rattle.metanet.proofs.Entries.{gathered_ext, ahead_ext}
use Rattle.metanet.specs.Sound.{steps_most, state_bad, totals_bad, state_number, case_number, arrival_number, step_number}

-- the speed of a curve, from the entries up to 200
curve_speed_same : (e f : ℕ → ℕ) (n g : ℕ) → ((j : ℕ) → j < 201 → e j ≡ f j) → curve_speed e n g ≡ curve_speed f n g
curve_speed_same e f n g same = go (leb 200 (n / g)) refl
  where
    go : (b : Bool) → leb 200 (n / g) ≡ b → curve_speed e n g ≡ curve_speed f n g
    go true q = simp (q, same 200 (lit< tt))
    go false q = let l = leb-false 200 (n / g) q in simp (q, same (n / g) (omega arith), same (n / g + 1) (omega arith))

-- the bound by speed, from the entries up to J
speed_bound_same : {i : ℕ} (h : Head) (s : Segment) (e f : ℕ → ℕ) (y : ℕ) → SegmentWithin h i s → ((j : ℕ) → j < 201 → e j ≡ f j)
    → speed_bound h e s y ≡ speed_bound h f s y
unfolding speed_bound
speed_bound_same h s e f y w same =
    λ i. cond (ltb y (same s.critical (omega (arith, w.critical_high, w.jam_high)) i))
    (s.lanes * y * greatest_ext (λ j. leb y (e j)) (λ j. leb y (f j)) s.jam (λ j l. ap (leb y) (same j (omega (arith, w.jam_high, l)))) i * h.step / 3600)
    s.most

module _ (h : Head) (e f : ℕ → ℕ → ℕ) (s u : ℕ → Segment)
    (entries : (k j : ℕ) → k < h.curves → j < 201 → e k j ≡ f k j) (segments : (i : ℕ) → i < h.size → s i ≡ u i)
    (each : (i : ℕ) → i < h.size → SegmentWithin h i (s i)) (onward : (i : ℕ) → i < h.size → FollowingWithin h.size i (s i).following) where
  before_same : (i : ℕ) → has_before s h.size i ≡ has_before u h.size i
  unfolding has_before
  before_same i = some_ext (λ k. goes_to i (s k).following) (λ k. goes_to i (u k).following) h.size (λ k l. ap (λ (x : Segment). goes_to i x.following) (segments k l))

  ramp_same : (i : ℕ) → i < h.size → on_ramp h e s i ≡ on_ramp h f u i
  ramp_same i l = λ j. eqb (segments i l j).origin 1 && before_same i j

  free_same : (i : ℕ) → i < h.size → free_speed h e s i ≡ free_speed h f u i
  free_same i l = entries (s i).curve 0 (each i l).curve_high (lit< tt) ∙ ap (λ (x : Segment). f x.curve 0) (segments i l)

  want_same : (r : SegmentState) (i : ℕ) → i < h.size → desired_speed (e (s i).curve) (s i) r ≡ desired_speed (f (u i).curve) (u i) r
  unfolding desired_speed
  want_same r i l =
      ap (λ (v : Float). under_sign v (sign_of r.sign)) (curve_speed_same (e (s i).curve) (f (s i).curve) r.count (area (s i)) (λ j m. entries (s i).curve j (each i l).curve_high m))
      ∙ ap (λ (x : Segment). under_sign (curve_speed (f x.curve) r.count (area x)) (sign_of r.sign)) (segments i l)

  bound_same : (m : Bool) (r : SegmentState) (i : ℕ) → i < h.size → origin_bound m h (e (s i).curve) (s i) r ≡ origin_bound m h (f (u i).curve) (u i) r
  unfolding origin_bound
  bound_same m r i l =
      let y = limiting_speed (whole_speed r) r.sign in
      simp (
        ← segments i l,
        speed_bound_same h (s i) (e (s i).curve) (f (s i).curve) y (each i l) (λ j k. entries (s i).curve j (each i l).curve_high k),
      )

  module _ (states : List SegmentState) where
    entering_same : (d : ℕ) → entering h e s states d h.size ≡ entering h f u states d h.size
    entering_same d =
        gathered_ext _ (first_way h f u) _ (second_way h f u) _ (first_at h f u states) _ (second_at h f u states) _ (out_at h f u states) _ h.size
        (λ i l. ap (λ (x : Segment). x.following.first) (segments i l))
        (λ i l. ap (λ (x : Segment). x.following.second) (segments i l))
        (λ i l. ap (λ (x : Segment). to_first (through h x (state_of states i)) x.following.share) (segments i l))
        (λ i l. ap (λ (x : Segment). to_second (through h x (state_of states i)) x.following.share) (segments i l))
        (λ i l. ap (λ (x : Segment). outflow_now h x (state_of states i)) (segments i l)) d

    passed_same : (d : ℕ) → passed_to h e s states d ≡ passed_to h f u states d
    unfolding gathered
    passed_same d = ap (λ (x : Entry). x.passed) (entering_same d)

    inflow_same : (i : ℕ) → inflow h e s states i ≡ inflow h f u states i
    unfolding inflow
    inflow_same i = passed_same (suc i)

    up_same : (i : ℕ) → upstream h e s states i ≡ upstream h f u states i
    unfolding upstream
    up_same i = ap (λ (x : Entry). entry_speed x (state_of states i).speed) (entering_same (suc i))

    -- a follower's density
    next_same : (k : ℕ) → 0 < k → k ≤ h.size → density_at h e s states k ≡ density_at h f u states k
    next_same k some l = ap (λ (x : Segment). density x (state_of states (k - 1))) (segments (k - 1) (omega arith))

    down_same : (i : ℕ) → i < h.size → downstream h e s states i ≡ downstream h f u states i
    unfolding downstream
    down_same i l =
        ahead_ext (s i).following _ (density_at h e s states) (density_at h f u states)
        (λ p. next_same _ p (onward i l).first_high) (λ p. next_same _ p (onward i l).second_high)
        ∙ ap (λ (x : Segment). density_ahead x.following (cond (ltb (state_of states i).count (x.critical * area x)) (density x (state_of states i)) (real x.critical)) (density_at h f u states)) (segments i l)

    state_same : (t : ℕ) (ds : List ℕ) (i : ℕ) → i < h.size → step_state h e s states t ds i ≡ step_state h f u states t ds i
    unfolding step_state
    state_same t ds i l =
        λ j. new_state h (segments i l j) (free_same i l j) (state_of states i) t (get_or ds i 0) (ramp_same i l j)
        (record {
          passed = inflow_same i j;
          before = up_same i j;
          after = down_same i l j;
          want = want_same (state_of states i) i l j;
          bound = (ap (λ (m : Bool). origin_bound (not m) h (e (s i).curve) (s i) (state_of states i)) (before_same i) ∙ bound_same (mainstream h f u i) (state_of states i) i l) j;
        })

    exit_same : (i : ℕ) → i < h.size → exit_now h e s states i ≡ exit_now h f u states i
    exit_same i l = ap (λ (x : Segment). exit_part (outflow_now h x (state_of states i)) x.exit) (segments i l)

    exits_same : exits_now h e s states ≡ exits_now h f u states
    exits_same = λ j. sum_ext (exit_now h e s states) (exit_now h f u states) h.size exit_same j + passed_same 0 j

  -- ---- what judges a case, and a step's arrivals
  state-number_same : (states : List SegmentState) (i : ℕ) → i < h.size → state_number h e s states i ≡ state_number h f u states i
  unfolding state_number
  state-number_same states i l = λ j. row (state_bad (ramp_same i l j) (segments i l j) (free_same i l j) (state_of states i)) 12 0

  pub case_number_same : (c : Case) → case_number h e s c ≡ case_number h f u c
  unfolding case_number
  case_number_same c =
      ap (λ (m : ℕ). first m (row (totals_bad (sum_of (vehicles_in c.states) h.size) c.steps c.arrivals c.exits c.time) 12 0))
      (first_of_ext (state_number h e s c.states) (state_number h f u c.states) h.size (state-number_same c.states))

  arrival_number_same : (ds : List ℕ) (i : ℕ) → i < h.size → arrival_number h e s ds i ≡ arrival_number h f u ds i
  unfolding arrival_number
  arrival_number_same ds i l =
      ap (λ (x : Segment). row (ltb 1000000 (get_or ds i 0) || (eqb x.origin 0 && ltb 0 (get_or ds i 0))) 15 0) (segments i l)

  pub step_number_same : (steps : ℕ) (ds : List ℕ) → step_number h e s steps ds ≡ step_number h f u steps ds
  unfolding step_number
  step_number_same steps ds =
      ap (λ (m : ℕ). row (not (eqb (length ds) h.size)) 13 (first m (row (leb steps_most steps) 16 0)))
      (first_of_ext (arrival_number h e s ds) (arrival_number h f u ds) h.size (arrival_number_same ds))

  pub step_same : (c : Case) (ds : List ℕ) → step_on h e s c ds ≡ step_on h f u c ds
  unfolding step_on step_states
  step_same c ds =
      λ j. record {
        states = table_ext (step_state h e s c.states c.steps ds) (step_state h f u c.states c.steps ds) h.size (state_same c.states c.steps ds) j;
        steps = c.steps + 1;
        arrivals = c.arrivals + sum_of (λ i. get_or ds i 0) h.size;
        exits = c.exits + exits_same c.states j;
        time = c.time + h.step * sum_of (vehicles_in c.states) h.size;
      }

-- ---- the network that is given by head, entries and segments

module _ (h : Head) (entry : ℕ → ℕ → ℕ) (segment : ℕ → Segment) (within : RowsWithin h entry segment) where
  abbrev given : Network
  given = network_from h entry segment

  each_given : (i : ℕ) → i < h.size → SegmentWithin h i (segment_of given i)
  each_given i l = rw (from_segment h entry segment i l) (within.each i l)

  onward_given : (i : ℕ) → i < h.size → FollowingWithin h.size i (segment_of given i).following
  onward_given i l = rw (from_segment h entry segment i l) (within.onward i l)

  -- a ramp of it
  pub ramp_from : (i : ℕ) → i < h.size → ramp_at given i ≡ on_ramp h entry segment i
  unfolding network_from
  ramp_from = ramp_same h (entry_of given) entry (segment_of given) segment (from_entry h entry segment) (from_segment h entry segment) each_given onward_given

  -- a step on it
  pub step_from : (c : Case) (ds : List ℕ) → step_case given c ds ≡ step_on h entry segment c ds
  unfolding network_from
  step_from c ds =
      step_same h (entry_of given) entry (segment_of given) segment (from_entry h entry segment) (from_segment h entry segment) each_given onward_given c ds

  -- 12 of a case on it
  pub case_number_from : (c : Case) → case_number given.head (entry_of given) (segment_of given) c ≡ case_number h entry segment c
  unfolding network_from
  case_number_from c =
      case_number_same h (entry_of given) entry (segment_of given) segment (from_entry h entry segment) (from_segment h entry segment) each_given onward_given c

  -- 13, 15 and 16 of a step on it
  pub step_number_from : (steps : ℕ) (ds : List ℕ)
      → step_number given.head (entry_of given) (segment_of given) steps ds ≡ step_number h entry segment steps ds
  unfolding network_from
  step_number_from steps ds =
      step_number_same h (entry_of given) entry (segment_of given) segment (from_entry h entry segment) (from_segment h entry segment) each_given onward_given steps ds
