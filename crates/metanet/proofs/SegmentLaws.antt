-- Bounds of what a step makes of one segment.
use Prim.Native.Nat.{ℕ, suc, ◌+◌, ◌*◌, ◌/◌, ◌≤◌, ◌<◌, min, max}
use native.Mathlib.Nat.{le_trans, le_of_eq, mul_comm, mul_assoc, mul-le-mul_left, mul-le-mul_right, div-le_of_le-mul, le-div_iff_mul-le, div-lt_iff_lt-mul, mod-lt}
use native.Mathlib.Omega.{arith}
use mathlib.Core.Bool.{Bool, true, false, cond, ◌&&◌}
use mathlib.Core.List.{List}
use lib.Dec.{T, eqb, lit<, lit≤}
use lib.Ieee.{Float, lt, le, to_unsigned}
use Rattle.laws.specs.Real.{real}
use Rattle.laws.proofs.Reals.{real-le, whole_low, whole_high, truncating, Truncates}
use Rattle.format.specs.declared.Head.{Head}
use Rattle.format.specs.declared.Segment.{Segment}
use Rattle.format.specs.Words.{head_in, entry_in, segment_in}
use Rattle.format.proofs.Accepted.{RowsWithin}
use Rattle.metanet.specs.declared.Ramp.{Ramp}
use Rattle.metanet.specs.declared.SegmentState.{SegmentState}
use Rattle.metanet.specs.Case.{open_kind}
use Rattle.metanet.specs.Flow.{exit_part, alinea_rate, moved, rate_change}
use Rattle.metanet.specs.Speed.{area, keep}
use Rattle.metanet.specs.Step.{rate_of, moves, rate_now, ramp_now, release_now, outflow_now, remainder_now, through}
use Rattle.metanet.proofs.Ready.{AreaOk, SegmentOk, RampOk, Within, Flowing}

-- ---- what acceptance of the network says of segment i

pub segment_ok : {h : Head} {entry : ℕ → ℕ → ℕ} {segment : ℕ → Segment} → RowsWithin h entry segment → (i : ℕ) → i < h.size → SegmentOk h (segment i) (entry (segment i).curve 0)
segment_ok w i l =
    let s = w.each i l in
    let e = w.curve _ s.curve_high in
    record {
      metres_low = s.metres_low;
      metres_high = s.metres_high;
      lanes_low = s.lanes_low;
      lanes_high = s.lanes_high;
      curve_high = omega (arith, s.curve_high, w.head.curves_high);
      critical_high = s.critical_high;
      jam_high = s.jam_high;
      exit_high = s.exit_high;
      most_high = s.most_high;
      first_high = (w.onward i l).first_high;
      second_high = (w.onward i l).second_high;
      share_high = s.share_high;
      slow = e.start_low;
      fast = e.start_high;
      reach = w.reach i l;
    }

-- of a network that is kept in words
abbrev pub SegmentIn : List ℕ → ℕ → Type 0
SegmentIn net i = SegmentOk (head_in net) (segment_in net i) (entry_in net (segment_in net i).curve 0)

pub area_ok : {h : Head} {s : Segment} {f : ℕ} → SegmentOk h s f → AreaOk s
area_ok S = record { metres_low = omega (arith, S.metres_low); metres_high = S.metres_high; lanes_low = S.lanes_low; lanes_high = S.lanes_high }

-- ---- the rate stays at most Q

pub rate_high : (s : Segment) {r : Ramp} → RampOk s.most r → (n t : ℕ) → (ramp_now s n r t).rate ≤ s.most
unfolding ramp_now rate_now rate_of alinea_rate
rate_high s {r} R n t = pick (moves r t) (eqb r.kind open_kind)
  where
    pick : (b c : Bool) → cond b (max r.least (min (moved r.rate (rate_change r.gain r.target (area s) r.summed r.sum)) s.most)) (cond c s.most r.rate) ≤ s.most
    pick true c = omega (arith, R.least)
    pick false true = omega arith
    pick false false = R.rate

-- no more is released than waits
pub release_waits : (s : Segment) (r : SegmentState) (t d bound : ℕ) → release_now s r t d bound ≤ r.queue + d
unfolding release_now
release_waits s r t d bound = omega arith

-- and no more is released than the rate
pub release_at_most_rate : (s : Segment) (r : SegmentState) (t d bound : ℕ) → release_now s r t d bound ≤ (ramp_now s r.count r.ramp t).rate
unfolding release_now ramp_now
release_at_most_rate s r t d bound = omega arith

-- ---- no more leaves than is there

-- no more leaves by the exit than flows out
pub exit_le : (out share : ℕ) → share ≤ 1000 → exit_part out share ≤ out
exit_le out share h = div-le_of_le-mul 1000 (le_trans (mul-le-mul_left out h) (le_of_eq (mul_comm out 1000)))

outflow_le : (n s f t l b : ℕ) → s ≤ f → f * t ≤ 3600 * l → b < 3600 * l → (n * s * t + b) / (3600 * l) ≤ n
outflow_le n s f t l b h k small =
    let most : n * (s * t) ≤ n * (3600 * l) = mul-le-mul_left n (le_trans (mul-le-mul_right t h) k) in
    let below : n * s * t + b < suc n * (3600 * l) = omega (arith, mul_assoc n s t, most, small) in
    omega (arith, (div-lt_iff_lt-mul {k = 3600 * l} {x = n * s * t + b} {y = suc n} (omega (arith, small))).1 below)

module _ {h : Head} {s : Segment} {f : ℕ} (S : SegmentOk h s f) where
  module _ {v : Float} (in-range : Within f v) where
    pub truncating_speed : Truncates v
    truncating_speed = truncating 1000 f v (lit< tt) S.slow (omega (arith, S.fast)) in-range.low in-range.high

    pub whole_speed_low : 1000 ≤ to_unsigned 64 v
    whole_speed_low = whole_low 1000 f v (lit< tt) S.slow (omega (arith, S.fast)) in-range.low in-range.high

    pub whole_speed_high : to_unsigned 64 v ≤ f
    whole_speed_high = whole_high 1000 f v (lit< tt) S.slow (omega (arith, S.fast)) in-range.low in-range.high

  -- what the division leaves is below its divisor
  pub remainder_low : (r : SegmentState) → remainder_now h s r < 3600 * s.metres
  unfolding remainder_now
  remainder_low r = mod-lt _ (omega (arith, S.metres_low))

  module _ {r : SegmentState} (R : Flowing s f r) where
    pub outflow_at_most_count : outflow_now h s r ≤ r.count
    unfolding outflow_now
    outflow_at_most_count = outflow_le r.count (to_unsigned 64 r.speed) f h.step s.metres r.flows.remainder (whole_speed_high R.speed) S.reach R.remainder

    -- at N × 1000 × T ≥ K × 3600 × L a segment lets out at least K
    pub outflow_at_least : (k : ℕ) → k * 3600 * s.metres ≤ r.count * 1000 * h.step → k ≤ outflow_now h s r
    unfolding outflow_now
    outflow_at_least k l =
        let long : 0 < 3600 * s.metres = omega (arith, S.metres_low) in
        (le-div_iff_mul-le long).1
        (omega (arith, mul_assoc k 3600 s.metres, l, mul-le-mul_right h.step (mul-le-mul_left r.count (whole_speed_low R.speed))))

    pub through_at_most_count : through h s r ≤ r.count
    unfolding through
    through_at_most_count = omega (arith, outflow_at_most_count)

-- ---- the speed that is kept lies in 1,000..F

module _ (f : ℕ) (slow : 1000 ≤ f) (fast : f ≤ 200000) where
  is_f : Within f (real f)
  is_f = record { low = real-le 1000 f slow (omega arith); high = real-le f f (omega arith) (omega arith) }

  is_1000 : Within f (real 1000)
  is_1000 = record { low = real-le 1000 1000 (omega arith) (lit≤ tt); high = real-le 1000 f slow (omega arith) }

  keep_test : (x : Float) (p q r : Bool) → (T p → T (le (real 1000) x)) → (T q → T (le x (real f))) → Within f (cond (p && q) x (cond r (real f) (real 1000)))
  keep_test x true true r a b = record { low = a tt; high = b tt }
  keep_test x true false true a b = is_f
  keep_test x true false false a b = is_1000
  keep_test x false q true a b = is_f
  keep_test x false q false a b = is_1000

  pub keep_within : (x : Float) → Within f (keep f x)
  unfolding keep
  keep_within x = keep_test x (le (real 1000) x) (le x (real f)) (lt (real f) x) (λ t. t) (λ t. t)
