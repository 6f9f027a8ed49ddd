-- Rates, releases and flows of one segment, in mv: steps 1 to 3 of "One step". All whole numbers.
use Rattle.std.specs.Prelude.{ℕ, suc, ◌+◌, ◌-◌, ◌*◌, ◌/◌, ◌%◌, min, max, cond, leb, ltb, eqb, ℤ, pos, negsuc, neg_ℤ}
use Rattle.laws.specs.Greatest.{greatest}
use Rattle.format.specs.declared.Head.{Head}
use Rattle.format.specs.declared.Segment.{Segment}
use Rattle.metanet.specs.declared.SignSetting.{SignSetting}
use Rattle.metanet.specs.declared.Ramp.{Ramp}

-- ---- 1. q = gain × (m × target × G − S) ÷ (m × G), quotient towards zero (F-4); sum is S
abbrev pub rate_change : ℕ → ℕ → ℕ → ℕ → ℕ → ℤ
rate_change gain target g m sum =
    cond (leb sum (m * target * g)) (pos (gain * (m * target * g - sum) / (m * g))) (neg_ℤ (pos (gain * (sum - m * target * g) / (m * g))))

-- R + q, and 0 where that is below 0
abbrev pub moved : ℕ → ℤ → ℕ
moved r = elim [ pos k ↦ r + k | negsuc k ↦ r - suc k ]

-- rate R becomes R + q, then kept in least..Q; least is not below 0, so what is below 0 becomes least
unfoldable pub alinea_rate : Ramp → ℕ → ℕ → ℕ
alinea_rate r most g = max r.least (min (moved r.rate (rate_change r.gain r.target g r.summed r.sum)) most)

-- ---- 2. what bounds an origin beside w + d and R

-- a ramp, by the jam density: the whole part of Q × (J × G − N) ÷ ((J − C) × G), or 0 when N ≥ J × G
abbrev pub jam_bound : ℕ → ℕ → ℕ → ℕ → ℕ → ℕ
jam_bound most jam critical g n = cond (leb (jam * g) n) 0 (most * (jam * g - n) / ((jam - critical) * g))

-- the speed of a shown sign is limit × (1000 + a); the compliance a is kept with 500 added
abbrev pub sign_speed : SignSetting → ℕ
sign_speed r = r.limit * (500 + r.compliance)

-- a mainstream origin, by speed (F-2). y is the lesser of s and the speed of a shown sign
unfoldable pub limiting_speed : ℕ → SignSetting → ℕ
limiting_speed s r = cond (eqb r.limit 0) s (min s (sign_speed r))

-- g is the greatest density up to J whose entry is at least y
unfoldable pub limiting_density : (ℕ → ℕ) → ℕ → ℕ → ℕ
unfolding greatest
limiting_density e jam y = greatest (λ j. leb y (e j)) jam

-- if y is below the entry at C, the whole part of H × y × g × T ÷ 3600; otherwise Q: only w + d and Q bound
unfoldable pub speed_bound : Head → (ℕ → ℕ) → Segment → ℕ → ℕ
unfolding limiting_density
speed_bound h e s y = cond (ltb y (e s.critical)) (s.lanes * y * limiting_density e s.jam y * h.step / 3600) s.most

-- release = least of w + d; R; the bound of the origin
abbrev pub release_of : ℕ → ℕ → ℕ → ℕ
release_of waiting rate bound = min (min waiting rate) bound

-- ---- 3. outflow = whole part of (N × s × T + b) ÷ (3600 × L) (F-8)
abbrev pub outflow_of : ℕ → ℕ → ℕ → ℕ → ℕ → ℕ
outflow_of n s t l b = (n * s * t + b) / (3600 * l)

-- the new b is what that division leaves
abbrev pub remainder_of : ℕ → ℕ → ℕ → ℕ → ℕ → ℕ
remainder_of n s t l b = (n * s * t + b) % (3600 * l)

-- exit part = whole part of outflow × X ÷ 1000
abbrev pub exit_part : ℕ → ℕ → ℕ
exit_part outflow share = outflow * share / 1000
