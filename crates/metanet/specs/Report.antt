-- The figures that a report gives of a case.
use Rattle.std.specs.Prelude.{ℕ, List, [], ◌∷◌}
use Rattle.std.specs.Float.{binary64}
use Rattle.std.specs.Float.Ieee.{to_bits, to_unsigned}
use Rattle.laws.specs.Sums.{sum_of}
use Rattle.format.specs.Network.{Network, segment_of}
use Rattle.metanet.specs.Case.{Case, state_of}
use Rattle.metanet.specs.Step.{rate_of}

-- steps, mv in segments, in queues, arrivals, exits, time
unfoldable pub case_figures : Network → Case → List ℕ
case_figures w c =
    c.steps
    ∷ sum_of (λ i. (state_of c.states i).count) w.head.size
    ∷ sum_of (λ i. (state_of c.states i).queue) w.head.size
    ∷ c.arrivals ∷ c.exits ∷ c.time ∷ []

-- R of segment i, counted from 0
abbrev pub reported_rate : Network → Case → ℕ → ℕ
reported_rate w c i = rate_of (segment_of w i).most (state_of c.states i).ramp

-- of segment i, counted from 0: N, s, bits of v, w, last outflow, last release, R
unfoldable pub segment_figures : Network → Case → ℕ → List ℕ
segment_figures w c i =
    let r = state_of c.states i in
    r.count ∷ to_unsigned 64 r.speed ∷ to_bits binary64 r.speed ∷ r.queue
    ∷ r.flows.outflow ∷ r.flows.release ∷ reported_rate w c i ∷ []
