-- How long the queue of a ramp takes to drain, if nothing more arrives (F-5).
use Rattle.std.specs.Prelude.{ℕ, zero, suc, ◌+◌, ◌-◌, ◌/◌, ◌<◌, ◌≤◌, min, ◌≡◌, cond, List, [], ◌∷◌, eqb, get_or}
use Rattle.format.specs.Network.{Network}
use Rattle.metanet.specs.Case.{Case, state_of}
use Rattle.metanet.specs.Report.{segment_figures, reported_rate}

-- ---- what is asked

-- the queue w after k steps in which nothing arrives and each releases the rate R, or all that is left
unfoldable pub queue_after : ℕ → ℕ → ℕ → ℕ
queue_after rate queue zero = queue
queue_after rate queue (suc k) = queue_after rate queue k - min rate (queue_after rate queue k)

-- the answer
pub data DrainTime : Type 0 where
  never : DrainTime
  in_steps : ℕ → DrainTime

-- ---- what the paper permits of any answer: nobody may rest on more

-- R 0 and a queue
abbrev pub NeverDrains : ℕ → ℕ → Type 0
NeverDrains rate queue = (rate ≡ 0) × (0 < queue)

-- a number of steps
pub record DrainsIn (rate queue k : ℕ) : Type 0 where
  -- with R 0 and a queue the answer is "never"
  pub not_never : NeverDrains rate queue → ⊥
  -- the queue is empty after at most k
  pub empty : queue_after rate queue k ≡ 0
  -- k is at most the whole part of w ÷ R, plus 1
  pub most : k ≤ queue / rate + 1
  -- with no queue, 0
  pub none : queue ≡ 0 → k ≡ 0

unfoldable pub Permitted : ℕ → ℕ → DrainTime → Type 0
Permitted rate queue never = NeverDrains rate queue
Permitted rate queue (in_steps k) = DrainsIn rate queue k

-- ---- the answer that this engine gives

-- with a queue and a rate, the most that is permitted
abbrev pub drain_steps : ℕ → ℕ → ℕ
drain_steps rate queue = queue / rate + 1

unfoldable pub drain_time : ℕ → ℕ → DrainTime
drain_time rate queue = cond (eqb queue 0) (in_steps 0) (cond (eqb rate 0) never (in_steps (drain_steps rate queue)))

-- as figures: 1 where it never drains, else 0; the steps, 0 where it never does
abbrev pub time_figures : DrainTime → List ℕ
time_figures = elim [ never ↦ 1 ∷ 0 ∷ [] | in_steps k ↦ 0 ∷ k ∷ [] ]

-- of segment i, counted from 0: R is the reported one
unfoldable pub drain_figures : Network → Case → ℕ → List ℕ
unfolding drain_time
drain_figures w c i = time_figures (drain_time (reported_rate w c i) (state_of c.states i).queue)

-- what holds of them, by R and w of the segment's report: they say an answer that is permitted
abbrev pub DrainPermitted : Type 0
DrainPermitted =
    (w : Network) (c : Case) (i : ℕ)
    → let report = segment_figures w c i in
    (t : DrainTime) × Permitted (get_or report 6 0) (get_or report 3 0) t × (drain_figures w c i ≡ time_figures t)
