-- Worked lists: signs, meters and steps on a network, with every figure after each step as it was worked out apart from these definitions.
use Rattle.std.specs.Prelude.{ℕ, ◌-◌, ◌*◌, ◌≡◌, List, [], ◌∷◌, ◌++◌, map, pos, neg_ℤ}
use Rattle.laws.specs.Lists.{table}
use Rattle.format.specs.declared.Segment.{Segment}
use Rattle.format.specs.Network.{Network, chain}
use Rattle.metanet.specs.declared.Setting.TheVariants.{Fixed, Alinea}
use Rattle.metanet.specs.Case.{Case, state_of}
use Rattle.metanet.specs.Line.{signed, metered, stepped, Line, case_of}
use Rattle.metanet.specs.Report.{case_figures, segment_figures}
use Rattle.metanet.specs.Start.{start_case}

-- ---- a worked list, and that it holds

pub record WorkedStep : Type 0 where
  -- signs and meters, then the step
  pub items : Line
  -- after it: steps, mv in segments, in queues, arrivals, exits, time
  pub totals : List ℕ
  -- and of each segment N, s, bits of v, w, last outflow, last release, R
  pub segments : List (List ℕ)
  -- and what no report shows: its S, m and b
  pub unreported : List (List ℕ)

pub record WorkedList : Type 0 where
  -- what is handed to Start
  pub network : Network
  pub mvs : List ℕ
  pub speeds : List ℕ
  pub queues : List ℕ
  pub steps : List WorkedStep

-- the figures that the list gives after a step and that are reported: the totals, then each segment's
abbrev pub given_figures : WorkedStep → List (List ℕ)
given_figures k = k.totals ∷ k.segments

-- the figures of a case, in that order; and S, m and b of each segment
abbrev pub all_figures : Network → Case → List (List ℕ)
all_figures w c = case_figures w c ∷ table (segment_figures w c) w.head.size

abbrev pub unreported_figures : Network → Case → List (List ℕ)
unreported_figures w c =
    table (λ i. (state_of c.states i).ramp.sum ∷ (state_of c.states i).ramp.summed ∷ (state_of c.states i).flows.remainder ∷ []) w.head.size

-- such figures after each step, of the case of the line so far; line is what came before
unfoldable pub figures_along : (Network → Case → List (List ℕ)) → Network → Case → Line → List WorkedStep → List (List (List ℕ))
figures_along f w begun line [] = []
figures_along f w begun line (k ∷ ks) = f w (case_of w begun (line ++ k.items)) ∷ figures_along f w begun (line ++ k.items) ks

abbrev pub start_case_of : WorkedList → Case
start_case_of l = start_case l.network l.mvs l.speeds l.queues

-- after each step of the list they are those that the list gives
pub record WorkedHolds (l : WorkedList) : Type 0 where
  pub reported : figures_along all_figures l.network (start_case_of l) [] l.steps ≡ map given_figures l.steps
  pub unreported : figures_along unreported_figures l.network (start_case_of l) [] l.steps ≡ map (λ k. k.unreported) l.steps

-- ---- a chain of three segments: T 10, τ 18, ν 60, κ 40, δ 122; one curve, entry j is 100,000 − 450 j

-- L, X and Q; two lanes, C 30, J 180, an origin; segment i of the chain
abbrev pub two_lanes : ℕ → ℕ → ℕ → ℕ → Segment
two_lanes L X Q i = record { metres = L; lanes = 2; curve = 0; critical = 30; jam = 180; origin = 1; exit = X; most = Q; following = chain 3 i }

abbrev pub chain_network : Network
chain_network =
    record {
      head = record { version = 1; step = 10; size = 3; curves = 1; tau = 18; nu = 60; kappa = 40; delta = 122 };
      curves = table (λ j. 100000 - 450 * j) 201 ∷ [];
      segments = two_lanes 500 0 30000 0 ∷ two_lanes 800 150 60000 1 ∷ two_lanes 600 0 30000 2 ∷ [];
    }

-- signs that bind, ALINEA on the mean of one step and of two, a fixed rate, an off-ramp, merging, the jam bound; the bound by speed from s, from a sign, and none
unfoldable pub chain_list : WorkedList
unfolding chain
chain_list =
    record {
      network = chain_network;
      mvs = 120000 ∷ 54943 ∷ 40520 ∷ [];
      speeds = 93582 ∷ 41089 ∷ 69218 ∷ [];
      queues = 200000 ∷ 70000 ∷ 1000 ∷ [];
      steps =
          record {
            items = metered 3 (Alinea 30 1427 900 2) ∷ stepped (9000 ∷ 2500 ∷ 700 ∷ []) ∷ [];
            totals = 1 ∷ 291268 ∷ 193236 ∷ 12200 ∷ 14159 ∷ 4864630 ∷ [];
            segments =
                (87612 ∷ 100000 ∷ 0x40f86a0000000000 ∷ 179000 ∷ 62388 ∷ 30000 ∷ 30000 ∷ [])
                ∷ (167757 ∷ 70587 ∷ 0x40f13bb2211e1bf0 ∷ 14236 ∷ 7838 ∷ 58264 ∷ 60000 ∷ [])
                ∷ (35899 ∷ 71537 ∷ 0x40f1771ffb74c9f6 ∷ 0 ∷ 12984 ∷ 1700 ∷ 30000 ∷ [])
                ∷ [];
            unreported = (0 ∷ 0 ∷ 0 ∷ []) ∷ (0 ∷ 0 ∷ 2089270 ∷ []) ∷ (40520 ∷ 1 ∷ 1693600 ∷ []) ∷ [];
          }
          ∷ record {
            items = signed 1 20 (neg_ℤ (pos 500)) ∷ metered 2 (Alinea 31 2241 200 2) ∷ stepped (8000 ∷ 1500 ∷ 0 ∷ []) ∷ [];
            totals = 2 ∷ 298947 ∷ 177000 ∷ 21700 ∷ 32216 ∷ 9709670 ∷ [];
            segments =
                (48939 ∷ 40995 ∷ 0x40e40471d1aae4de ∷ 177000 ∷ 48673 ∷ 10000 ∷ 30000 ∷ [])
                ∷ (191050 ∷ 88894 ∷ 0x40f5b3ea2074ee69 ∷ 0 ∷ 41116 ∷ 15736 ∷ 60000 ∷ [])
                ∷ (58958 ∷ 79556 ∷ 0x40f36c45788a20f5 ∷ 0 ∷ 11890 ∷ 0 ∷ 30000 ∷ [])
                ∷ [];
            unreported = (0 ∷ 0 ∷ 600000 ∷ []) ∷ (167757 ∷ 1 ∷ 2642860 ∷ []) ∷ (76419 ∷ 2 ∷ 361230 ∷ []) ∷ [];
          }
          ∷ record {
            items = signed 1 45 (neg_ℤ (pos 50)) ∷ signed 2 60 (neg_ℤ (pos 100)) ∷ stepped (9500 ∷ 0 ∷ 1200 ∷ []) ∷ [];
            totals = 3 ∷ 299422 ∷ 156665 ∷ 32400 ∷ 62776 ∷ 14469140 ∷ [];
            segments =
                (67628 ∷ 1000 ∷ 0x408f400000000000 ∷ 156665 ∷ 11146 ∷ 29835 ∷ 30000 ∷ [])
                ∷ (143226 ∷ 68796 ∷ 0x40f0cbcefb5fcbf6 ∷ 0 ∷ 58970 ∷ 0 ∷ 200 ∷ [])
                ∷ (88568 ∷ 93886 ∷ 0x40f6ebe49922237c ∷ 0 ∷ 21715 ∷ 1200 ∷ 27373 ∷ [])
                ∷ [];
            unreported = (0 ∷ 0 ∷ 343050 ∷ []) ∷ (191050 ∷ 1 ∷ 1029860 ∷ []) ∷ (58958 ∷ 1 ∷ 587710 ∷ []) ∷ [];
          }
          ∷ record {
            items = signed 1 51 (pos 0) ∷ stepped (7000 ∷ 2000 ∷ 0 ∷ []) ∷ [];
            totals = 4 ∷ 256994 ∷ 164465 ∷ 41400 ∷ 106404 ∷ 19030010 ∷ [];
            segments =
                (68253 ∷ 15219 ∷ 0x40cdb9e8062a4ce4 ∷ 162665 ∷ 375 ∷ 1000 ∷ 30000 ∷ [])
                ∷ (109588 ∷ 49427 ∷ 0x40e822610093a060 ∷ 1800 ∷ 34213 ∷ 200 ∷ 200 ∷ [])
                ∷ (79153 ∷ 89310 ∷ 0x40f5cde5dca5b6ec ∷ 0 ∷ 38497 ∷ 0 ∷ 27373 ∷ [])
                ∷ [];
            unreported = (0 ∷ 0 ∷ 1623050 ∷ []) ∷ (334276 ∷ 2 ∷ 1348820 ∷ []) ∷ (147526 ∷ 2 ∷ 20190 ∷ []) ∷ [];
          }
          ∷ record {
            items = metered 3 (Fixed 900) ∷ stepped (7000 ∷ 2000 ∷ 1500 ∷ []) ∷ [];
            totals = 5 ∷ 237765 ∷ 158646 ∷ 51900 ∷ 141952 ∷ 23244600 ∷ [];
            segments =
                (77701 ∷ 34950 ∷ 0x40e110c66ad350d9 ∷ 154446 ∷ 5771 ∷ 15219 ∷ 30000 ∷ [])
                ∷ (96751 ∷ 47062 ∷ 0x40e6fac6cc86b0d4 ∷ 3600 ∷ 18808 ∷ 200 ∷ 200 ∷ [])
                ∷ (63313 ∷ 81045 ∷ 0x40f3c955dc1f0098 ∷ 600 ∷ 32727 ∷ 900 ∷ 900 ∷ [])
                ∷ [];
            unreported = (0 ∷ 0 ∷ 1247120 ∷ []) ∷ (109588 ∷ 1 ∷ 369580 ∷ []) ∷ (0 ∷ 0 ∷ 1244490 ∷ []) ∷ [];
          }
          ∷ [];
    }
