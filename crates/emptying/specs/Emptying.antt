-- An emptying road (F-7): how many quiet steps can begin with much left in a segment.
use Rattle.std.specs.Prelude.{ℕ, ◌+◌, ◌*◌, ◌≤◌, ◌<◌, ◌≡◌, Bool, cond, [], ◌∷◌, leb}
use Rattle.laws.specs.First.{some_below}
use Rattle.laws.specs.Sums.{sum_of}
use Rattle.format.specs.Network.{Network, entry_of, segment_of, rows_number}
use Rattle.metanet.specs.Case.{Case, state_of}
use Rattle.metanet.specs.Sound.{case_number}
use Rattle.metanet.specs.Line.{Item, signed, metered, stepped, Line, change, arrivals_of}
use Rattle.emptying.specs.LongestWay.{longest_way}

-- P is the sum of N times the number of segments on the longest way out
unfoldable pub p_of : Network → Case → ℕ
unfolding longest_way sum_of
p_of w c = sum_of (λ i. (state_of c.states i).count * longest_way (segment_of w) w.head.size i) w.head.size

-- segment i is at N × 1000 × T ≥ K × 3600 × L
abbrev pub busy_at : Network → ℕ → Case → ℕ → Bool
busy_at w K c i = leb (K * 3600 * (segment_of w i).metres) ((state_of c.states i).count * 1000 * w.head.step)

-- some segment is
unfoldable pub busy : Network → ℕ → Case → Bool
unfolding some_below
busy w K c = some_below (busy_at w K c) w.head.size

-- 1 for a step that begins so
abbrev pub busy_step : Network → ℕ → Case → Item → ℕ
busy_step w K c = elim [ signed i limit compliance ↦ 0 | metered i setting ↦ 0 | stepped arrivals ↦ cond (busy w K c) 1 0 ]

-- how many steps of a line from the case c begin so
unfoldable pub busy_steps : Network → ℕ → Case → Line → ℕ
unfolding busy change
busy_steps w K c [] = 0
busy_steps w K c (i ∷ l) = busy_step w K c i + busy_steps w K (change w c i) l

-- Then on any network that no row refuses, from any sound case with empty queues, over any line whose steps have no arrivals, and for each whole K
-- above 0 (of 0 it says nothing), these steps number at most that case's P ÷ K. Signs and meters may stand between them, even such as their calls
-- would refuse; there may be more than 20,000 steps (16), and the case need not stay sound (12).
abbrev pub Emptying : Type 0
Emptying =
    (w : Network) (c : Case) (l : Line) (K : ℕ)
    → rows_number w.head (entry_of w) (segment_of w) ≡ 0
    → case_number w.head (entry_of w) (segment_of w) c ≡ 0
    → ((i : ℕ) → i < w.head.size → (state_of c.states i).queue ≡ 0)
    → arrivals_of w l ≡ 0
    → busy_steps w K c l * K ≤ p_of w c
