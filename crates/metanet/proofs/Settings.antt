-- A setting by its kind: the test that judges it, and what one that is not bad says. m says whether the segment may be metered.
use Prim.Native.Nat.{ℕ}
use mathlib.Core.Path.{◌≡◌, refl}
use mathlib.Core.Bool.{Bool, true, false, cond, not, ◌||◌, true≢false}
use native.Mathlib.Omega.{arith}
use lib.Dec.{eqb}
use borrow.Author.Tests.{ltb-false, le-ltb, eqb-true, eq-eqb, ne_eqb, not-false}
use Rattle.laws.proofs.Tests.{or_left, or_right, any_of_false}
use Rattle.metanet.specs.declared.Ramp.{Ramp}
use Rattle.metanet.specs.Case.{open_kind, fixed_kind, alinea_kind}
use Rattle.metanet.specs.Sound.{sum_most, summed_most, has_alinea, open_bad, fixed_bad, alinea_bad, setting_bad, average_bad}

-- ---- the test that judges it

module _ (m : Bool) (q : ℕ) (r : Ramp) where
  pub is_open : r.kind ≡ open_kind → setting_bad m q r ≡ open_bad q r
  unfolding setting_bad
  is_open e = simp (eq-eqb _ _ e)

  pub is_fixed : m ≡ true → r.kind ≡ fixed_kind → setting_bad m q r ≡ fixed_bad q r
  unfolding setting_bad
  is_fixed may e = simp (may, e)

  pub is_alinea : m ≡ true → r.kind ≡ alinea_kind → setting_bad m q r ≡ alinea_bad q r
  unfolding setting_bad
  is_alinea may e = simp (may, e)

-- ---- what one that is not bad says

module _ (m : Bool) (q : ℕ) (r : Ramp) (z : setting_bad m q r ≡ false) {P : Type 0} where
  -- of each kind
  pub by_kind : (r.kind ≡ open_kind → open_bad q r ≡ false → P) → (m ≡ true → r.kind ≡ fixed_kind → fixed_bad q r ≡ false → P)
      → (m ≡ true → r.kind ≡ alinea_kind → alinea_bad q r ≡ false → P) → P
  unfolding setting_bad
  by_kind opened fixed alinea = pick (eqb r.kind open_kind) (eqb r.kind fixed_kind) (eqb r.kind alinea_kind) refl refl refl z
    where
      may : (b : Bool) → (not m || b) ≡ false → m ≡ true
      may b e = not-false m (or_left (not m) b e)

      pick : (a b c : Bool) → eqb r.kind open_kind ≡ a → eqb r.kind fixed_kind ≡ b → eqb r.kind alinea_kind ≡ c
          → cond a (open_bad q r) (cond b (not m || fixed_bad q r) (cond c (not m || alinea_bad q r) true)) ≡ false → P
      pick true b c e f g z = opened (eqb-true _ _ e) z
      pick false true c e f g z = fixed (may _ z) (eqb-true _ _ f) (or_right (not m) (fixed_bad q r) z)
      pick false false true e f g z = alinea (may _ z) (eqb-true _ _ g) (or_right (not m) (alinea_bad q r) z)
      pick false false false e f g z = absurd (true≢false z)

  -- ALINEA's, or another, which has none of ALINEA's figures
  pub by_alinea : (eqb r.kind alinea_kind ≡ true → alinea_bad q r ≡ false → P) → (eqb r.kind alinea_kind ≡ false → has_alinea r ≡ false → P) → P
  unfolding open_bad fixed_bad
  by_alinea alinea other =
      by_kind
      (λ e f. other (ne_eqb r.kind alinea_kind (λ o. omega (arith, e, o))) (or_left (has_alinea r) _ f))
      (λ may e f. other (ne_eqb r.kind alinea_kind (λ o. omega (arith, e, o))) (or_left (has_alinea r) _ f))
      (λ may e f. alinea (eq-eqb _ _ e) f)

-- ---- S and m of a setting that is not ALINEA's

module _ (r : Ramp) (z : has_alinea r ≡ false) where
  pub no_sum : r.sum ≡ 0
  unfolding has_alinea
  no_sum = omega (arith, ltb-false 0 r.sum (any_of_false _ z 4))

  pub no_summed : r.summed ≡ 0
  unfolding has_alinea
  no_summed = omega (arith, ltb-false 0 r.summed (any_of_false _ z 5))

  -- are within their bounds
  pub none_averaged : average_bad r.sum r.summed ≡ false
  unfolding average_bad
  none_averaged = λ j. le-ltb sum_most r.sum (omega (arith, no_sum)) j || le-ltb summed_most r.summed (omega (arith, no_summed)) j
