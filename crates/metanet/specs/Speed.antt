-- The speed of one segment after a step: step 5 of "One step". Whole products are formed exactly, then made binary64; each
-- operation rounds once, grouped as bracketed.
use Rattle.std.specs.Prelude.{ℕ, ◌+◌, ◌-◌, ◌*◌, ◌/◌, ◌%◌, Bool, cond, ◌&&◌, leb, Float}
use Rattle.std.specs.Float.Ieee.{lt, le}
use Rattle.laws.specs.Real.{real, ◌⊕◌, ◌⊖◌, ◌⊗◌, ◌⊘◌}
use Rattle.format.specs.declared.Head.{Head}
use Rattle.format.specs.declared.Segment.{Segment}
use Rattle.metanet.specs.declared.Old.{Old}
use Rattle.metanet.specs.declared.Sign.{Sign}
use Rattle.metanet.specs.declared.Sign.TheVariants.{Dark, Shown}

-- G = L × H
abbrev pub area : Segment → ℕ
area s = s.metres * s.lanes

-- ---- V = e(j) − ((e(j) − e(j+1)) × (N mod G)) ÷ G with j the whole part of N ÷ G, the product being whole; V = e200 for j ≥ 200
abbrev pub curve_speed : (ℕ → ℕ) → ℕ → ℕ → Float
curve_speed e n g =
    cond (leb 200 (n / g)) (real (e 200))
    (real (e (n / g)) ⊖ (real ((e (n / g) - e (n / g + 1)) * (n % g)) ⊘ real g))

-- a sign is dark, or shows its speed, and V is the lesser of the two
abbrev pub under_sign : Float → Sign → Float
under_sign v Dark = v
under_sign v (Shown s) = cond (lt s v) s v

-- ---- A = (T ÷ τ) × (V − v)
abbrev pub relaxation : Head → Float → Float → Float
relaxation h want v = (real h.step ⊘ real h.tau) ⊗ (want ⊖ v)

-- B = ((T ÷ (3600 × L)) × v) × (u − v)
abbrev pub convection : Head → Segment → Old → Float
convection h s o = ((real h.step ⊘ real (3600 * s.metres)) ⊗ o.speed) ⊗ (o.before ⊖ o.speed)

-- D = (((ν × 1,000,000 × T) ÷ (τ × L)) × (ρ' − ρ)) ÷ (ρ + κ)
abbrev pub anticipation : Head → Segment → Old → Float
anticipation h s o =
    ((real (h.nu * 1000000 * h.step) ⊘ real (h.tau * s.metres)) ⊗ (o.after ⊖ o.density)) ⊘ (o.density ⊕ real h.kappa)

-- E = (((δ × release) ÷ (1000 × G)) × v) ÷ (ρ + κ)
abbrev pub merging : Head → Segment → Old → ℕ → Float
merging h s o release =
    ((real (h.delta * release) ⊘ real (1000 * area s)) ⊗ o.speed) ⊘ (o.density ⊕ real h.kappa)

-- it stands if 1,000 ≤ it ≤ F, is F if above F, otherwise 1,000
unfoldable pub keep : ℕ → Float → Float
keep f x = cond (le (real 1000) x && le x (real f)) x (cond (lt (real f) x) (real f) (real 1000))

-- new v = (((v + A) + B) − D) − E, without "− E" where nothing merges, then kept
unfoldable pub new_speed : Head → Segment → ℕ → Old → Float → Bool → ℕ → Float
unfolding keep
new_speed h s f o want on_ramp release =
    let x = ((o.speed ⊕ relaxation h want o.speed) ⊕ convection h s o) ⊖ anticipation h s o in
    keep f (cond on_ramp (x ⊖ merging h s o release) x)
