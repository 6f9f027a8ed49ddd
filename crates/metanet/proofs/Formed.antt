-- One step keeps a ramp formed: its setting is as Meter permits, and its rate is in range. A speed in 1,000..F is not bad.
use Prim.Native.Nat.{ℕ, ◌≤◌, min, max}
use mathlib.Core.Path.{◌≡◌, refl, sym, ◌∙◌}
use mathlib.Core.Bool.{Bool, true, false, cond, not, ◌&&◌, ◌||◌}
use mathlib.Core.List.{[], ◌∷◌}
use native.Mathlib.Omega.{arith}
use lib.Dec.{T, ltb, eqb}
use lib.Ieee.{Float, le}
use borrow.Author.Tests.{ltb-false, eq-eqb, ne_eqb}
use Rattle.laws.specs.First.{any_of, outside}
use Rattle.laws.specs.Real.{real}
use Rattle.laws.proofs.Tests.{or_left, any_of_false, inside, inside_low, inside_high}
use Rattle.format.specs.declared.Segment.{Segment}
use Rattle.metanet.specs.Case.{open_kind, alinea_kind}
use Rattle.metanet.specs.Flow.{alinea_rate, moved, rate_change}
use Rattle.metanet.specs.Speed.{area}
use Rattle.metanet.specs.Step.{rate_of, moves, rate_now, ramp_now}
use Rattle.metanet.specs.Sound.{has_alinea, open_bad, fixed_bad, alinea_bad, setting_bad, speed_bad}
use Rattle.metanet.proofs.Average.{added_other}
use Rattle.metanet.proofs.Ready.{Within}
use Rattle.metanet.proofs.Settings.{is_open, is_fixed, is_alinea, by_kind}
use Rattle.metanet.specs.declared.Ramp.{Ramp}

-- ---- the rate that a step makes, by the kind of setting

record InRange (least most x : ℕ) : Type 0 where
  low : least ≤ x
  high : x ≤ most

module _ (s : Segment) (r : Ramp) (t : ℕ) where
  rate_open : r.kind ≡ 0 → rate_now s r t ≡ s.most
  unfolding rate_now rate_of moves
  rate_open e = rw e

  rate_fixed : r.kind ≡ 1 → rate_now s r t ≡ r.rate
  unfolding rate_now rate_of moves
  rate_fixed e = rw e

  rate_alinea : r.kind ≡ 2 → r.least ≤ s.most → InRange r.least s.most r.rate → InRange r.least s.most (rate_now s r t)
  unfolding rate_now rate_of alinea_rate
  rate_alinea e l w = pick (moves r t)
    where
      pick : (b : Bool) → InRange r.least s.most (cond b (max r.least (min (moved r.rate (rate_change r.gain r.target (area s) r.summed r.sum)) s.most)) (cond (eqb r.kind open_kind) s.most r.rate))
      pick true = record { low = omega arith; high = omega (arith, l) }
      pick false = rw e w

T_true : (b : Bool) → T b → b ≡ true
T_true true t = refl
T_true false t = absurd t

pub within_good : (f : ℕ) (v : Float) → Within f v → speed_bad f v ≡ false
unfolding speed_bad
within_good f v w = λ j. not (T_true (le (real 1000) v) w.low j && T_true (le v (real f)) w.high j)

-- ---- the ramp after a step

module _ (s : Segment) (n : ℕ) (r : Ramp) (t : ℕ) where
  abbrev q : ℕ
  q = s.most

  abbrev new : Ramp
  new = ramp_now s n r t

  -- a setting that is not ALINEA's gets none of its figures
  has_same : (r.kind ≡ alinea_kind → ⊥) → has_alinea new ≡ has_alinea r
  unfolding has_alinea ramp_now
  has_same other = simp (added_other r t (ne_eqb r.kind alinea_kind other))

  open_kept : r.kind ≡ 0 → open_bad q r ≡ false → open_bad q new ≡ false
  unfolding open_bad ramp_now
  open_kept e z = λ j. (has_same (λ o. omega (arith, e, o)) ∙ or_left (has_alinea r) _ z) j || not (eq-eqb (rate_now s r t) q (rate_open s r t e) j)

  fixed_kept : r.kind ≡ 1 → fixed_bad q r ≡ false → fixed_bad q new ≡ false
  unfolding fixed_bad ramp_now
  fixed_kept e z = (λ j. has_same (λ o. omega (arith, e, o)) j || ltb q (rate_fixed s r t e j)) ∙ z

  alinea_kept : r.kind ≡ 2 → alinea_bad q r ≡ false → alinea_bad q new ≡ false
  unfolding alinea_bad ramp_now
  alinea_kept e z =
      let no = any_of_false _ z in
      let old : InRange r.least q r.rate = record { low = inside_low r.least r.rate q (no 4); high = inside_high r.least r.rate q (no 4) } in
      let now = rate_alinea s r t e (ltb-false _ _ (no 2)) old in
      let rate = inside r.least (rate_now s r t) q now.low now.high ∙ sym (no 4) in
      (λ j. any_of (outside 1 r.target 199 ∷ outside 1 r.gain 60000 ∷ ltb q r.least ∷ outside 1 r.interval 60 ∷ rate j ∷ [])) ∙ z

  -- m says whether the segment may be metered
  pub setting_kept : (m : Bool) → setting_bad m q r ≡ false → setting_bad m q new ≡ false
  unfolding ramp_now
  setting_kept m z =
      by_kind m q r z
      (λ e f. is_open m q new e ∙ open_kept e f)
      (λ may e f. is_fixed m q new may e ∙ fixed_kept e f)
      (λ may e f. is_alinea m q new may e ∙ alinea_kept e f)
