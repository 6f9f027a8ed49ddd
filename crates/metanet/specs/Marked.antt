-- The marked cases of "Tallies and edges", as one list.
use Rattle.std.specs.Prelude.{ℕ, ◌≡◌, [], ◌∷◌, ◌++◌, pos, neg_ℤ, get_or, replicate}
use Rattle.laws.specs.Real.{real}
use Rattle.format.specs.Network.{Network}
use Rattle.format.specs.Marked.{one_segment, SpeedLimitCase}
use Rattle.metanet.specs.declared.Sign.TheVariants.{Shown}
use Rattle.metanet.specs.Case.{Case, state_of}
use Rattle.metanet.specs.Flow.{jam_bound, rate_change}
use Rattle.metanet.specs.Speed.{curve_speed}
use Rattle.metanet.specs.Step.{sign_of, step_case}
use Rattle.metanet.specs.Start.{start_case}
use Rattle.metanet.specs.Change.{sign_for}
use Rattle.metanet.specs.Report.{case_figures}

-- ---- the listing's network and its case: 20,000 mv, 90,000 m/h, queue 5,000; steps with arrivals 4,000, then 0

abbrev pub tallies : Network
tallies = one_segment 10 100000

unfoldable pub at_start : Case
at_start = start_case tallies (20000 ∷ []) (90000 ∷ []) (5000 ∷ [])

unfoldable pub after_one : Case
after_one = step_case tallies at_start (4000 ∷ [])

unfoldable pub after_two : Case
after_two = step_case tallies after_one (0 ∷ [])

-- entries with e20 80,000 and e21 79,000
unfoldable pub bent : ℕ → ℕ
bent j = get_or (replicate 21 80000 ++ replicate 180 79000) j 0

pub record MarkedCases : Type 0 where
  pub listing_0 : case_figures tallies at_start ≡ 0 ∷ 20000 ∷ 5000 ∷ 0 ∷ 0 ∷ 0 ∷ []
  -- both steps
  pub listing_1 : case_figures tallies after_one ≡ 1 ∷ 16000 ∷ 3000 ∷ 4000 ∷ 10000 ∷ 250000 ∷ []
  pub listing_2 : case_figures tallies after_two ≡ 2 ∷ 10556 ∷ 0 ∷ 4000 ∷ 18444 ∷ 440000 ∷ []
  -- v 95,000 then 97,500
  pub speed_1 : (state_of after_one.states 0).speed ≡ real 95000
  pub speed_2 : (state_of after_two.states 0).speed ≡ real 97500
  -- jam bound 6,400 at N 20,000, 0 at 180,000 and 180,001
  pub jam_bound_lem : jam_bound 6000 180 30 1000 20000 ≡ 6400
  pub jam_bound_full : jam_bound 6000 180 30 1000 180000 ≡ 0
  pub jam_bound_over : jam_bound 6000 180 30 1000 180001 ≡ 0
  -- q, gain 100, target 30, G 1,000: −450 at N 34,500, 0 at 30,001 and 29,999; with m 1 and S = N it is still so
  pub change_down : rate_change 100 30 1000 1 34500 ≡ neg_ℤ (pos 450)
  pub change_just_above : rate_change 100 30 1000 1 30001 ≡ pos 0
  pub change_just_below : rate_change 100 30 1000 1 29999 ≡ pos 0
  -- V 79,500 for e20 80,000, e21 79,000, N 20,500
  pub curve_between : curve_speed bent 20500 1000 ≡ real 79500
  -- limit 70, a −100: 63,000
  pub sign_shown : sign_of (sign_for 70 (neg_ℤ (pos 100))) ≡ Shown (real 63000)
  -- L 500, T 18: F 100,000 accepted, 100,001 is 8
  pub speed_limit : SpeedLimitCase
