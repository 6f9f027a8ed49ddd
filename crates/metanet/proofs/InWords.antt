-- A case in the words, as the functions inside read, judge and write it word by word; net is the network's words.
use Prim.Native.Nat.{ℕ, ◌+◌, ◌*◌}
use mathlib.Core.List.{List, [], ◌∷◌, ◌++◌}
use mathlib.Core.Bool.{cond}
use lib.Dec.{eqb}
use lib.IntN.{ℤ}
use lib.ListN.{get_or, take, drop, set, replicate}
use lib.Ieee.{Float}
use Rattle.laws.specs.Lists.{part, puts}
use Rattle.laws.specs.First.{row}
use Rattle.laws.specs.Sums.{sum_of}
use Rattle.format.specs.Words.{head_in, entry_in, segment_in}
use Rattle.metanet.specs.declared.SignSetting.{SignSetting}
use Rattle.metanet.specs.declared.Ramp.{Ramp}
use Rattle.metanet.specs.declared.Flows.{Flows}
use Rattle.metanet.specs.declared.SegmentState.{SegmentState}
use Rattle.metanet.specs.declared.Setting.{Setting}
use Rattle.metanet.specs.Change.{sign_for, ramp_for}
use Rattle.metanet.specs.Step.{vehicles_in, step_state, exits_now}
use Rattle.metanet.specs.Case.{alinea_kind, state_of}
use Rattle.metanet.specs.Sound.{average_bad, state_number, case_number, arrival_number, step_number}
use Rattle.metanet.specs.Words.{net_of, states_in, case_in, put_state}

-- ---- the rows that judge a case and a step

abbrev pub state_number_in : List ℕ → List Float → ℕ → ℕ → ℕ → ℕ → ℕ
state_number_in words speeds at from n i =
    let net = net_of words in
    state_number (head_in net) (entry_in net) (segment_in net) (states_in words speeds at from n) i

abbrev pub case_number_in : List ℕ → List Float → ℕ → ℕ → ℕ → ℕ
case_number_in words speeds at from n =
    let net = net_of words in
    case_number (head_in net) (entry_in net) (segment_in net) (case_in words speeds at from n)

-- 12, of S and m of state i
unfoldable pub mean_number : List SegmentState → ℕ → ℕ
mean_number states i = row (average_bad (state_of states i).ramp.sum (state_of states i).ramp.summed) 12 0

abbrev pub mean_number_in : List ℕ → ℕ → ℕ → ℕ
mean_number_in words at i = row (average_bad (get_or words (at + 16 * i + 12) 0) (get_or words (at + 16 * i + 13) 0)) 12 0

abbrev pub arrival_number_in : List ℕ → List ℕ → ℕ → ℕ
arrival_number_in net ds i = arrival_number (head_in net) (entry_in net) (segment_in net) ds i

abbrev pub step_number_in : List ℕ → ℕ → List ℕ → ℕ
step_number_in net steps ds = step_number (head_in net) (entry_in net) (segment_in net) steps ds

-- ---- the 16 words of a state

-- how many of them are in use; the others are free
abbrev pub words_used : ℕ
words_used = 15

-- its parts, put into the words w; of the ramp a step puts R, and S and m where it is ALINEA's
unfoldable pub put_sign : SignSetting → List ℕ → List ℕ
put_sign r w = set (set w 2 r.limit) 3 r.compliance

unfoldable pub put_average : Ramp → List ℕ → List ℕ
put_average r w = set (set w 12 r.sum) 13 r.summed

unfoldable pub put_ramp : Ramp → List ℕ → List ℕ
unfolding put_average
put_ramp r w =
    put_average r (set (set (set (set (set (set w 4 r.kind) 5 r.rate) 6 r.target) 7 r.gain) 8 r.least) 9 r.interval)

unfoldable pub put_rate : Ramp → List ℕ → List ℕ
put_rate r w = set w 5 r.rate

unfoldable pub put_flows : Flows → List ℕ → List ℕ
put_flows r w = set (set (set w 10 r.outflow) 11 r.release) 14 r.remainder

-- the words of a state, the free ones 0
unfoldable pub state_words : SegmentState → List ℕ
unfolding put_state
state_words r = put_state r (replicate 16 0)

-- what Sign, Meter and a step write in the words w of a state; most is the segment's Q, r the state after the step
unfoldable pub signed_words : ℕ → ℤ → List ℕ → List ℕ
unfolding put_sign
signed_words limit compliance w = put_sign (sign_for limit compliance) w

unfoldable pub metered_words : ℕ → Setting → List ℕ → List ℕ
unfolding put_ramp
metered_words most setting w = put_ramp (ramp_for most setting) w

unfoldable pub stepped_words : List ℕ → SegmentState → List ℕ
unfolding put_rate put_flows put_average
stepped_words w r =
    let made = put_flows r.flows (put_rate r.ramp (set (set w 0 r.count) 1 r.queue)) in
    cond (eqb r.ramp.kind alinea_kind) (put_average r.ramp made) made

-- ---- what a step writes: of each state what it makes anew, and its speed

abbrev pub step_state_in : List ℕ → List Float → ℕ → ℕ → ℕ → ℕ → List ℕ → ℕ → SegmentState
step_state_in words speeds at from n t ds i =
    let net = net_of words in
    step_state (head_in net) (entry_in net) (segment_in net) (states_in words speeds at from n) t ds i

abbrev pub new_words : List ℕ → List Float → ℕ → ℕ → ℕ → ℕ → List ℕ → ℕ → List ℕ
new_words words speeds at from n t ds i = stepped_words (part (at + 16 * i) 16 words) (step_state_in words speeds at from n t ds i)

abbrev pub new_speeds : List ℕ → List Float → ℕ → ℕ → ℕ → ℕ → List ℕ → ℕ → List Float
new_speeds words speeds at from n t ds i = (step_state_in words speeds at from n t ds i).speed ∷ []

abbrev pub step_words : List ℕ → List Float → ℕ → ℕ → ℕ → ℕ → List ℕ → List ℕ
step_words words speeds at from n t ds = puts 16 (new_words words speeds at from n t ds) at n words

abbrev pub step_speeds : List ℕ → List Float → ℕ → ℕ → ℕ → ℕ → List ℕ → List Float
step_speeds words speeds at from n t ds = puts 1 (new_speeds words speeds at from n t ds) from n speeds

-- ---- of the totals the four

unfoldable pub totals_words : List ℕ → ℕ → ℕ → ℕ → List ℕ
totals_words w came left time =
    set (set (set (set w 0 (get_or w 0 0 + 1)) 1 (get_or w 1 0 + came)) 2 (get_or w 2 0 + left)) 3 (get_or w 3 0 + time)

-- the words with the 8 from place e on replaced
abbrev pub put_totals : List ℕ → ℕ → List ℕ → List ℕ
put_totals words e ys = take e words ++ (ys ++ drop 8 (drop e words))

-- what leaves in the step
abbrev pub leaving : List ℕ → List Float → ℕ → ℕ → ℕ → ℕ
leaving words speeds at from n = let net = net_of words in exits_now (head_in net) (entry_in net) (segment_in net) (states_in words speeds at from n)

-- the words after a step of the case: its states' figures and its totals are new, all else stays
abbrev pub step_case_words : List ℕ → List Float → ℕ → ℕ → ℕ → List ℕ → List ℕ
step_case_words words speeds at from n ds =
    put_totals (step_words words speeds at from n (get_or words (at + 16 * n) 0) ds) (at + 16 * n)
    (totals_words (part (at + 16 * n) 8 words)
    (sum_of (λ i. get_or ds i 0) n)
    (leaving words speeds at from n)
    (get_or words 0 0 * sum_of (vehicles_in (states_in words speeds at from n)) n))

-- the speeds after it: the case's own are new, all else stays
abbrev pub step_case_speeds : List ℕ → List Float → ℕ → ℕ → ℕ → List ℕ → List Float
step_case_speeds words speeds at from n ds = step_speeds words speeds at from n (get_or words (at + 16 * n) 0) ds
