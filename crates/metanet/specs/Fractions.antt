-- "Fractions carried, not dropped" (F-8): over the steps of a line nothing of a segment's outflow is lost to rounding.
use Rattle.std.specs.Prelude.{ℕ, ◌+◌, ◌*◌, ◌/◌, ◌<◌, ◌≡◌, [], ◌∷◌}
use Rattle.format.specs.Network.{Network, segment_of}
use Rattle.metanet.specs.Case.{Case, state_of}
use Rattle.metanet.specs.Step.{whole_speed, outflow_now}
use Rattle.metanet.specs.Line.{Item, signed, metered, stepped, Line, change}

-- b of segment i, counted from 0
abbrev pub remainder_at : Case → ℕ → ℕ
remainder_at c i = (state_of c.states i).flows.remainder

-- what a step of the case c lets out of it, and its N × s × T
abbrev pub outflow_at : Network → ℕ → Case → ℕ
outflow_at w i c = outflow_now w.head (segment_of w i) (state_of c.states i)

abbrev pub product_at : Network → ℕ → Case → ℕ
product_at w i c = (state_of c.states i).count * whole_speed (state_of c.states i) * w.head.step

-- figures of the cases that the steps of a line begin with, added up; c is the case before the line
abbrev pub in_step : (Case → ℕ) → Case → Item → ℕ
in_step f c = elim [ signed i limit compliance ↦ 0 | metered i setting ↦ 0 | stepped arrivals ↦ f c ]

unfoldable pub over_steps : Network → (Case → ℕ) → Case → Line → ℕ
unfolding change
over_steps w f c [] = 0
over_steps w f c (i ∷ l) = in_step f c i + over_steps w f (change w c i) l

-- The outflows of a segment over a line are the whole part of (the sum of N × s × T, and b before the line) ÷ (3600 × L); at Start b is 0. From
-- any case whose b is below 3600 × L, over any line.
abbrev pub NothingLost : Type 0
NothingLost =
    (w : Network) (c : Case) (l : Line) (i : ℕ)
    → i < w.head.size
    → remainder_at c i < 3600 * (segment_of w i).metres
    → over_steps w (outflow_at w i) c l ≡ (over_steps w (product_at w i) c l + remainder_at c i) / (3600 * (segment_of w i).metres)
