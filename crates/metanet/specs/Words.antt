-- How a case stands in the lent words and speeds (docs/ARRANGEMENT.md): how it is read, and what they are when it is put in.
-- A case's states of 16 words start at place at, its 8 words of totals follow; its speeds start at place from.
use Rattle.std.specs.Prelude.{ℕ, ◌+◌, ◌*◌, List, [], ◌∷◌, ◌++◌, get_or, take, drop, Float}
use Rattle.std.specs.Float.{nan}
use Rattle.laws.specs.Lists.{table, part, put_part, parts}
use Rattle.metanet.specs.declared.SignSetting.{SignSetting}
use Rattle.metanet.specs.declared.Ramp.{Ramp}
use Rattle.metanet.specs.declared.Flows.{Flows}
use Rattle.metanet.specs.declared.SegmentState.{SegmentState}
use Rattle.metanet.specs.Case.{Case, state_of}

-- the words of the network
abbrev pub net_of : List ℕ → List ℕ
net_of words = take 2560 words

-- ---- a state in 16 words: N, w, limit, compliance + 500, kind, R, target, gain, least, z, last outflow, last release, S, m, b; 1 is free

-- its parts, read
unfoldable pub sign_in : List ℕ → SignSetting
sign_in w = record { limit = get_or w 2 0; compliance = get_or w 3 0 }

unfoldable pub ramp_in : List ℕ → Ramp
ramp_in w =
    record {
      kind = get_or w 4 0;
      rate = get_or w 5 0;
      target = get_or w 6 0;
      gain = get_or w 7 0;
      least = get_or w 8 0;
      interval = get_or w 9 0;
      sum = get_or w 12 0;
      summed = get_or w 13 0;
    }

unfoldable pub flows_in : List ℕ → Flows
flows_in w = record { outflow = get_or w 10 0; remainder = get_or w 14 0; release = get_or w 11 0 }

unfoldable pub state_in : List ℕ → Float → SegmentState
unfolding sign_in ramp_in flows_in
state_in w v = record { count = get_or w 0 0; queue = get_or w 1 0; sign = sign_in w; ramp = ramp_in w; flows = flows_in w; speed = v }

-- the words of its parts
abbrev pub sign_words : SignSetting → List ℕ
sign_words r = r.limit ∷ r.compliance ∷ []

abbrev pub ramp_words : Ramp → List ℕ
ramp_words r = r.kind ∷ r.rate ∷ r.target ∷ r.gain ∷ r.least ∷ r.interval ∷ []

abbrev pub flows_words : Flows → List ℕ
flows_words r = r.outflow ∷ r.release ∷ []

abbrev pub average_words : Ramp → List ℕ
average_words r = r.sum ∷ r.summed ∷ []

abbrev pub remainder_words : Flows → List ℕ
remainder_words r = r.remainder ∷ []

-- the words w of a state with the state r put in; the free one stays
unfoldable pub put_state : SegmentState → List ℕ → List ℕ
put_state r w =
    r.count ∷ r.queue ∷ (sign_words r.sign ++ (ramp_words r.ramp ++ (flows_words r.flows ++ (average_words r.ramp ++ (remainder_words r.flows ++ drop 15 w)))))

-- ---- a case, read

abbrev pub state_at : List ℕ → List Float → ℕ → ℕ → ℕ → SegmentState
state_at words speeds at from i = state_in (drop (at + 16 * i) words) (get_or speeds (from + i) nan)

unfoldable pub states_in : List ℕ → List Float → ℕ → ℕ → ℕ → List SegmentState
unfolding state_in table
states_in words speeds at from n = table (state_at words speeds at from) n

-- the totals: steps, arrivals, exits, time; 4 are free
unfoldable pub case_in : List ℕ → List Float → ℕ → ℕ → ℕ → Case
unfolding states_in
case_in words speeds at from n =
    record {
      states = states_in words speeds at from n;
      steps = get_or words (at + 16 * n) 0;
      arrivals = get_or words (at + 16 * n + 1) 0;
      exits = get_or words (at + 16 * n + 2) 0;
      time = get_or words (at + 16 * n + 3) 0;
    }

-- ---- a case of n segments, put in: its states and the four totals from place at on, its speeds from place from on; the free words and all
-- else stay

unfoldable pub put_case : ℕ → ℕ → Case → List ℕ → List ℕ
unfolding put_state parts
put_case at n c words =
    take at words
    ++ (parts (λ i. put_state (state_of c.states i) (part (at + 16 * i) 16 words)) n
    ++ (c.steps ∷ c.arrivals ∷ c.exits ∷ c.time ∷ drop (at + 16 * n + 4) words))

unfoldable pub put_case_speeds : ℕ → ℕ → Case → List Float → List Float
unfolding table
put_case_speeds from n c speeds = put_part from n (table (λ i. (state_of c.states i).speed) n) speeds
