-- What a sign and a setting put into a segment's state.
use Rattle.std.specs.Prelude.{ℕ, zero, suc, ◌+◌, ◌-◌, Bool, ◌&&◌, ◌||◌, not, [], ◌∷◌, ltb, eqb, ℤ, pos, negsuc, set}
use Rattle.laws.specs.First.{any_of, outside}
use Rattle.metanet.specs.declared.SignSetting.{SignSetting}
use Rattle.metanet.specs.declared.Ramp.{Ramp}
use Rattle.metanet.specs.declared.SegmentState.{SegmentState}
use Rattle.metanet.specs.Case.{Case, dark_sign, fixed_kind, alinea_kind, plain_ramp, open_ramp}
use Rattle.metanet.specs.declared.Setting.{Setting}
use Rattle.metanet.specs.declared.Setting.TheVariants.{Open, Fixed, Alinea}

-- ---- Sign: limit (0 is dark), compliance

-- −500..500
abbrev pub compliance_bad : ℤ → Bool
compliance_bad = elim [ pos a ↦ ltb 500 a | negsuc a ↦ ltb 499 a ]

-- a compliance of −500..500 with 500 added
abbrev pub compliance_word : ℤ → ℕ
compliance_word = elim [ pos a ↦ 500 + a | negsuc a ↦ 499 - a ]

-- 18: limit neither 0 nor 20..200, or compliance outside −500..500
abbrev pub sign_refused : ℕ → ℤ → Bool
sign_refused limit compliance = (not (eqb limit 0) && outside 20 limit 200) || compliance_bad compliance

-- a dark sign keeps no compliance
abbrev pub sign_for : ℕ → ℤ → SignSetting
sign_for zero compliance = dark_sign
sign_for (suc limit) compliance = record { limit = suc limit; compliance = compliance_word compliance }

abbrev pub signed_state : ℕ → ℤ → SegmentState → SegmentState
signed_state limit compliance r =
    record { count = r.count; queue = r.queue; sign = sign_for limit compliance; ramp = r.ramp; flows = r.flows; speed = r.speed }

-- ---- Meter: open, or fixed at 0..Q mv, or ALINEA with target 1..199, gain 1..60,000 mv, least 0..Q, z 1..60 steps; most is Q

-- 20
abbrev pub setting_refused : ℕ → Setting → Bool
setting_refused most Open = any_of []
setting_refused most (Fixed rate) = ltb most rate
setting_refused most (Alinea target gain least interval) =
    any_of (outside 1 target 199 ∷ outside 1 gain 60000 ∷ ltb most least ∷ outside 1 interval 60 ∷ [])

-- ALINEA begins at R = Q, with S and m 0
abbrev pub ramp_for : ℕ → Setting → Ramp
ramp_for most Open = open_ramp most
ramp_for most (Fixed rate) = plain_ramp fixed_kind rate
ramp_for most (Alinea target gain least interval) =
    record { kind = alinea_kind; rate = most; target = target; gain = gain; least = least; interval = interval; sum = 0; summed = 0 }

abbrev pub metered_state : ℕ → Setting → SegmentState → SegmentState
metered_state most setting r =
    record { count = r.count; queue = r.queue; sign = r.sign; ramp = ramp_for most setting; flows = r.flows; speed = r.speed }

-- ---- the case c with the state r at segment i, counted from 0; all else stays
abbrev pub with_state : Case → ℕ → SegmentState → Case
with_state c i r = record { states = set c.states i r; steps = c.steps; arrivals = c.arrivals; exits = c.exits; time = c.time }
