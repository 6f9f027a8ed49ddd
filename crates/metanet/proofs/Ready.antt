-- What a step rests on, as records whose fields the proofs read.
use Prim.Native.Nat.{ℕ, ◌+◌, ◌-◌, ◌*◌, ◌≤◌, ◌<◌}
use mathlib.Core.Path.{◌≡◌}
use mathlib.Core.List.{List}
use mathlib.Core.Bool.{cond, not, ◌&&◌}
use lib.ListN.{get_or, drop, length}
use lib.Dec.{T, ltb, eqb}
use lib.Ieee.{Float, le}
use Rattle.laws.specs.Real.{real, ◌⊘◌}
use Rattle.format.specs.declared.Head.{Head}
use Rattle.format.specs.declared.Following.{Following}
use Rattle.format.specs.declared.Segment.{Segment}
use Rattle.format.proofs.Accepted.{RowsWithin}
use Rattle.format.specs.Words.{head_in, entry_in, segment_in}
use Rattle.metanet.specs.declared.SignSetting.{SignSetting}
use Rattle.metanet.specs.declared.Ramp.{Ramp}
use Rattle.metanet.specs.declared.SegmentState.{SegmentState}
use Rattle.metanet.specs.declared.Entry.{Entry}
use Rattle.metanet.specs.declared.Neighbours.{Neighbours}
use Rattle.metanet.specs.Case.{alinea_kind}
use Rattle.metanet.specs.Speed.{area}
use Rattle.metanet.specs.Junction.{entry_speed, density_ahead}
use Rattle.metanet.specs.Step.{new_state, desired_speed, origin_bound}
use Rattle.metanet.specs.Words.{net_of, state_in, state_at}
use Rattle.metanet.proofs.InWords.{step_words, step_speeds, leaving}

-- length and lanes are such that G is 1..16,000
pub record AreaOk (s : Segment) : Type 0 where
  pub metres_low : 1 ≤ s.metres
  pub metres_high : s.metres ≤ 2000
  pub lanes_low : 1 ≤ s.lanes
  pub lanes_high : s.lanes ≤ 8

-- a segment that acceptance has judged, with F: 1,000 ≤ F ≤ 200,000 and F × T ≤ 3600 × L
pub record SegmentOk (h : Head) (s : Segment) (f : ℕ) : Type 0 where
  pub metres_low : 100 ≤ s.metres
  pub metres_high : s.metres ≤ 2000
  pub lanes_low : 1 ≤ s.lanes
  pub lanes_high : s.lanes ≤ 8
  pub curve_high : s.curve < 8
  pub critical_high : s.critical < s.jam
  pub jam_high : s.jam ≤ 200
  pub exit_high : s.exit ≤ 1000
  pub most_high : s.most ≤ 300000
  pub first_high : s.following.first ≤ h.size
  pub second_high : s.following.second ≤ h.size
  pub share_high : s.following.share ≤ 1000
  pub slow : 1000 ≤ f
  pub fast : f ≤ 200000
  pub reach : f * h.step ≤ 3600 * s.metres

-- what a step asks of a state: less than that it is sound. q is the segment's Q
pub record SignOk (r : SignSetting) : Type 0 where
  pub limit : r.limit ≤ 200
  pub compliance : r.compliance ≤ 1000

pub record RampOk (q : ℕ) (r : Ramp) : Type 0 where
  pub rate : r.rate ≤ q
  pub target : r.target ≤ 199
  pub gain : r.gain ≤ 60000
  pub least : r.least ≤ q
  pub interval : r.kind ≡ alinea_kind → 0 < r.interval
  pub sum : r.sum ≤ 60000000000000
  pub summed : r.summed ≤ 60

-- a speed in 1,000..F
pub record Within (f : ℕ) (v : Float) : Type 0 where
  pub low : T (le (real 1000) v)
  pub high : T (le v (real f))

-- what the outflow rule asks of a state; every step keeps it, of any case
pub record Flowing (s : Segment) (f : ℕ) (r : SegmentState) : Type 0 where
  pub speed : Within f r.speed
  pub remainder : r.flows.remainder < 3600 * s.metres

pub record StateOk (s : Segment) (f : ℕ) (r : SegmentState) : Type 0 where
  pub count : r.count ≤ 1000000000000
  pub queue : r.queue ≤ 1000000000000
  pub sign : SignOk r.sign
  pub ramp : RampOk s.most r.ramp
  pub flowing : Flowing s f r

-- the network in the first 2,560 words is within the rows
abbrev pub NetworkOk : List ℕ → Type 0
NetworkOk words = RowsWithin (head_in (net_of words)) (entry_in (net_of words)) (segment_in (net_of words))

-- a case of n segments at at and from, on the network in the first 2,560 words, whose size n is
pub record CaseAt (words : List ℕ) (speeds : List Float) (at from n : ℕ) : Type 0 where
  pub net : NetworkOk words
  pub size : n ≡ (head_in (net_of words)).size
  pub past : 2560 ≤ at
  pub room : at + 16 * n + 8 ≤ length words
  pub speed_room : from + n ≤ length speeds

-- the whole step: the network in the first 2,560 words, n its size, a case at at and from, n arrivals
pub record Ready (words : List ℕ) (speeds : List Float) (ds : List ℕ) (at from n : ℕ) : Type 0 where
  pub net : NetworkOk words
  pub size : n ≡ (head_in (net_of words)).size
  pub past : 2560 ≤ at
  pub room : at + 16 * n ≤ length words
  pub speed_room : from + n ≤ length speeds
  pub arrivals : length ds ≡ n
  pub state : (i : ℕ) → i < n → StateOk (segment_in (net_of words) i) (entry_in (net_of words) (segment_in (net_of words) i).curve 0) (state_at words speeds at from i)
  pub arrival : (i : ℕ) → i < n → get_or ds i 0 ≤ 1000000

-- totals that a step can add to; a sound case's are lower
pub record TotalsOk (words : List ℕ) (e : ℕ) : Type 0 where
  pub room : e + 8 ≤ length words
  pub steps : get_or words e 0 ≤ 20000
  pub arrivals : get_or words (e + 1) 0 ≤ 1000000000000000000
  pub exits : get_or words (e + 2) 0 ≤ 1000000000000000000
  pub time : get_or words (e + 3) 0 ≤ 1000000000000000000

-- ---- one segment, from the network's words, the words from its state on and what enters it

-- the density of number k, whose state starts 16 × (k − 1 − i) words after that of segment i
abbrev pub next_in : List ℕ → List ℕ → ℕ → ℕ → Float
next_in net rest i k = real (get_or rest (16 * (k - 1 - i)) 0) ⊘ real (area (segment_in net (k - 1)))

unfoldable pub after_in : List ℕ → List ℕ → ℕ → Segment → ℕ → Float
after_in net rest i s count =
    density_ahead s.following (cond (ltb count (s.critical * area s)) (real count ⊘ real (area s)) (real s.critical)) (next_in net rest i)

-- what reading that density asks
pub record NextOk (net rest : List ℕ) (i k : ℕ) : Type 0 where
  pub long : 2560 ≤ length net
  pub higher : i + 1 < k
  pub small : k ≤ 40
  pub room : 16 * (k - 1 - i) < length rest
  pub count : get_or rest (16 * (k - 1 - i)) 0 ≤ 1000000000000
  pub area_ok : AreaOk (segment_in net (k - 1))

-- of the following segments, where there are any
pub record AheadOk (net rest : List ℕ) (i : ℕ) (f : Following) : Type 0 where
  pub first : 0 < f.first → NextOk net rest i f.first
  pub second : 0 < f.second → NextOk net rest i f.second

-- what is around segment i, which is s, with the state r
unfoldable pub neighbours_in : List ℕ → List ℕ → Head → ℕ → Segment → SegmentState → Entry → Neighbours
neighbours_in net rest h i s r e =
    record {
      passed = e.passed;
      before = entry_speed e r.speed;
      after = after_in net rest i s r.count;
      want = desired_speed (entry_in net s.curve) s r;
      bound = origin_bound (eqb e.segments 0) h (entry_in net s.curve) s r;
    }

unfoldable pub new_state_in : List ℕ → List ℕ → Float → ℕ → ℕ → ℕ → Entry → SegmentState
new_state_in net rest v d i t e =
    let h = head_in net in
    let s = segment_in net i in
    let r = state_in rest v in
    new_state h s (entry_in net s.curve 0) r t d (eqb s.origin 1 && not (eqb e.segments 0)) (neighbours_in net rest h i s r e)

-- segment i of the network in the first words, whose state starts at word a and whose speed is v
pub record SegmentAt (words : List ℕ) (i a : ℕ) (v : Float) : Type 0 where
  pub net : NetworkOk words
  pub long : 2560 ≤ length words
  pub more : i < (head_in (net_of words)).size
  pub room : a + 16 ≤ length words
  pub ahead : AheadOk (net_of words) (drop a words) i (segment_in (net_of words) i).following
  pub state : StateOk (segment_in (net_of words) i) (entry_in (net_of words) (segment_in (net_of words) i).curve 0) (state_in (drop a words) v)

-- and what its new state is made of: its arrivals and what enters it
pub record NewStateOk (words : List ℕ) (a : ℕ) (v : Float) (d i : ℕ) (e : Entry) : Type 0 where
  pub place : SegmentAt words i a v
  pub arrival : d ≤ 1000000
  pub passed : e.passed ≤ 100000000000000
  pub entry : e.outflows ≤ 100000000000000

-- what a step of the states leaves, and what it counts out: exit parts and what is passed on to none
pub record Stepped (words : List ℕ) (speeds : List Float) (ds : List ℕ) (at from n t : ℕ) (words' : List ℕ) (speeds' : List Float) (left : ℕ) : Type 0 where
  pub makes : words' ≡ step_words words speeds at from n t ds
  pub speeds_are : speeds' ≡ step_speeds words speeds at from n t ds
  pub leaves : left ≡ leaving words speeds at from n
  pub bound : left ≤ 120000000000000

abbrev pub vehicles_at : List ℕ → ℕ → ℕ → ℕ
vehicles_at words at i = get_or words (at + 16 * i) 0 + get_or words (at + 16 * i + 1) 0
