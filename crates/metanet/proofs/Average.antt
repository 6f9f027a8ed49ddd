-- S and m of a ramp on a line: m is at most the number of steps since z last divided t, and since Meter was called; S is at most 10¹² for
-- each of them. So both keep their bounds.
use Prim.Native.Nat.{ℕ, zero, suc, ◌+◌, ◌-◌, ◌*◌, ◌/◌, ◌%◌, ◌≤◌, ◌<◌}
use mathlib.Core.Path.{◌≡◌, refl, ap, ◌∙◌}
use mathlib.Core.Bool.{Bool, true, false, cond, not, ◌&&◌, ◌||◌, true≢false}
use mathlib.Core.List.{[], ◌∷◌, ◌++◌}
use native.Mathlib.Nat.{pos_of_ne-zero, one-mul, mod-lt, mod_self, mod-eq_of_lt, suc-mod}
use native.Mathlib.Omega.{arith}
use native.Mathlib.Numerals.{add-one}
use lib.Dec.{leb, eqb}
use lib.IntN.{pos, neg_ℤ}
use borrow.Author.Tests.{le-ltb, eqb-true, eqb-false, ne_eqb, not-true}
use Rattle.laws.proofs.Tests.{and_right, any_of_false, inside_low, inside_high}
use Rattle.format.specs.declared.Segment.{Segment}
use Rattle.metanet.specs.declared.Ramp.{Ramp}
use Rattle.metanet.specs.Case.{alinea_kind}
use Rattle.metanet.specs.Flow.{rate_change, alinea_rate}
use Rattle.metanet.specs.Line.{Item, Line, signed, metered, stepped}
use Rattle.metanet.specs.Speed.{area}
use Rattle.metanet.specs.Step.{rate_of, moves, rate_now, added_up, ramp_now}
use Rattle.metanet.specs.Sound.{mv_most, summed_most, sum_most, alinea_bad, setting_bad, average_bad}
use Rattle.metanet.proofs.Settings.{by_alinea, no_sum, no_summed, none_averaged}

-- with m 1 and S = N, q is what document 01 says: gain × (target × G − N) ÷ G
pub one_step : (gain target g n : ℕ)
    → rate_change gain target g 1 n ≡ cond (leb n (target * g)) (pos (gain * (target * g - n) / g)) (neg_ℤ (pos (gain * (n - target * g) / g)))
one_step gain target g n = simp one-mul

-- ---- the rate that a step makes, by whether it moves

module _ (s : Segment) (r : Ramp) (t : ℕ) where
  pub rate_moved : moves r t ≡ true → rate_now s r t ≡ alinea_rate r s.most (area s)
  unfolding rate_now
  rate_moved e = rw e refl

  pub rate_stays : moves r t ≡ false → rate_now s r t ≡ rate_of s.most r
  unfolding rate_now
  rate_stays e = rw e refl

  pub moves_not : (r.kind ≡ alinea_kind → ⊥) → moves r t ≡ false
  unfolding moves
  moves_not other = simp (ne_eqb r.kind alinea_kind other)

-- ---- what a step makes of S or m, as x

module _ (r : Ramp) (t : ℕ) where
  -- a rate moves only where m is not 0
  pub moves_some : moves r t ≡ true → 0 < r.summed
  unfolding moves
  moves_some e =
      pos_of_ne-zero (eqb-false r.summed 0 (not-true _ (and_right (eqb (t % r.interval) 0) _ (and_right (eqb r.kind alinea_kind) _ e))))

  pub added_other : eqb r.kind alinea_kind ≡ false → (x k : ℕ) → added_up r t x k ≡ x
  unfolding added_up
  added_other e x k = rw e refl

  added_moved : eqb r.kind alinea_kind ≡ true → moves r t ≡ true → (x k : ℕ) → added_up r t x k ≡ k
  unfolding added_up
  added_moved e c x k = rw (e, c) (omega arith)

  added_more : eqb r.kind alinea_kind ≡ true → moves r t ≡ false → (x k : ℕ) → added_up r t x k ≡ x + k
  unfolding added_up
  added_more e c x k = rw (e, c) refl

-- ---- the steps since z last divided t, after as many steps as are on the line; the last of them was made with one less

unfoldable pub since_divided : ℕ → ℕ → ℕ
since_divided z zero = 0
since_divided z (suc t) = t % z + 1

since_next : (z t : ℕ) → since_divided z (t + 1) ≡ t % z + 1
unfolding since_divided
since_next z t = rw add-one refl

-- where z does not divide t
since_more : (z t : ℕ) → 0 < z → (t % z ≡ 0 → ⊥) → since_divided z t ≤ t % z
unfolding since_divided
since_more z zero l n = omega arith
since_more z (suc t) l n = go (eqb (suc (t % z)) z) refl
  where
    next : suc t % z ≡ suc (t % z) % z
    next = suc-mod t z

    go : (b : Bool) → eqb (suc (t % z)) z ≡ b → t % z + 1 ≤ suc t % z
    go true e = absurd (n (next ∙ ap (λ (x : ℕ). x % z) (eqb-true (suc (t % z)) z e) ∙ mod_self z))
    go false e =
        let less : suc (t % z) < z = omega (arith, mod-lt t l, eqb-false (suc (t % z)) z e) in
        omega (arith, next, mod-eq_of_lt less)

-- z at most
since-most : (z t : ℕ) → 0 < z → since_divided z t ≤ z
unfolding since_divided
since-most z zero l = omega arith
since-most z (suc t) l = omega (arith, mod-lt t l)

-- ---- the steps since Meter was called for segment i, counted from 0: after an item, k before it; and after a line

abbrev pub since_item : ℕ → ℕ → Item → ℕ
since_item i k = elim [ signed j limit compliance ↦ k | metered j setting ↦ cond (eqb (j - 1) i) 0 k | stepped arrivals ↦ k + 1 ]

unfoldable since_from : ℕ → ℕ → Line → ℕ
since_from i k [] = k
since_from i k (x ∷ l) = since_from i (since_item i k x) l

unfoldable pub since_meter : ℕ → Line → ℕ
unfolding since_from
since_meter i l = since_from i 0 l

from_snoc : (i k : ℕ) (l : Line) (x : Item) → since_from i k (l ++ (x ∷ [])) ≡ since_item i (since_from i k l) x
unfolding since_from
from_snoc i k [] x = refl
from_snoc i k (y ∷ l) x = from_snoc i (since_item i k y) l x

pub since_snoc : (i : ℕ) (l : Line) (x : Item) → since_meter i (l ++ (x ∷ [])) ≡ since_item i (since_meter i l) x
unfolding since_meter
since_snoc i l x = from_snoc i 0 l x

-- ---- S and m after t steps, of which k since Meter was called

pub record Averaged (r : Ramp) (t k : ℕ) : Type 0 where
  pub divided : r.summed ≤ since_divided r.interval t
  pub called : r.summed ≤ k
  pub sum : r.sum ≤ mv_most * r.summed

-- S and m 0
pub averaged_none : (r : Ramp) (t k : ℕ) → r.sum ≡ 0 → r.summed ≡ 0 → Averaged r t k
averaged_none r t k s m = record { divided = omega (arith, m); called = omega (arith, m); sum = omega (arith, s) }

-- z is 1..60
module _ (q : ℕ) (r : Ramp) (z : alinea_bad q r ≡ false) where
  interval_low : 0 < r.interval
  unfolding alinea_bad
  interval_low = inside_low 1 r.interval 60 (any_of_false _ z 3)

  interval_high : r.interval ≤ 60
  unfolding alinea_bad
  interval_high = inside_high 1 r.interval 60 (any_of_false _ z 3)

module _ (m : Bool) (q : ℕ) (r : Ramp) (z : setting_bad m q r ≡ false) where
  module _ {t k : ℕ} (a : Averaged r t k) where
    -- so they are within their bounds
    pub average_within : average_bad r.sum r.summed ≡ false
    unfolding average_bad
    average_within = by_alinea m q r z few (λ other none. none_averaged r none)
      where
        few : eqb r.kind alinea_kind ≡ true → alinea_bad q r ≡ false → average_bad r.sum r.summed ≡ false
        few e f =
            let steps : r.summed ≤ summed_most = omega (arith, a.divided, since-most r.interval t (interval_low q r f), interval_high q r f) in
            λ j. le-ltb sum_most r.sum (omega (arith, a.sum, steps)) j || le-ltb summed_most r.summed steps j

    -- where the rate does not move, z does not divide t or m is 0
    few_stay : alinea_bad q r ≡ false → eqb r.kind alinea_kind ≡ true → moves r t ≡ false → r.summed ≤ t % r.interval
    unfolding moves
    few_stay f e stay = go (eqb (t % r.interval) 0) (eqb r.summed 0) refl refl (rw e at stay)
      where
        go : (d o : Bool) → eqb (t % r.interval) 0 ≡ d → eqb r.summed 0 ≡ o → (d && not o) ≡ false → r.summed ≤ t % r.interval
        go true true d o y = omega (arith, eqb-true r.summed 0 o)
        go true false d o y = absurd (true≢false y)
        go false o d q y = omega (arith, a.divided, since_more r.interval t (interval_low _ r f) (eqb-false _ _ d))

    -- and after a step with n mv they are again such
    module _ (s : Segment) (n : ℕ) (few : n ≤ mv_most) where
      abbrev new : Ramp
      new = ramp_now s n r t

      -- S and m of the new ramp
      abbrev Made : ℕ → ℕ → Type 0
      Made sum summed = (new.sum ≡ sum) × (new.summed ≡ summed)

      made : (sum summed : ℕ) → Made sum summed → summed ≤ t % r.interval + 1 → summed ≤ k + 1 → sum ≤ mv_most * summed → Averaged new (t + 1) (k + 1)
      unfolding ramp_now
      made sum summed (e, f) divided called high =
          record {
            divided = rw (f, since_next r.interval t) divided;
            called = rw f called;
            sum = rw (e, f) high;
          }

      pub averaged_step : Averaged new (t + 1) (k + 1)
      unfolding ramp_now
      averaged_step =
          by_alinea m q r z (λ e f. go f e (moves r t) refl)
          (λ e none. averaged_none new _ _ (added_other r t e r.sum n ∙ no_sum r none) (added_other r t e r.summed 1 ∙ no_summed r none))
        where
          go : alinea_bad q r ≡ false → eqb r.kind alinea_kind ≡ true → (c : Bool) → moves r t ≡ c → Averaged new (t + 1) (k + 1)
          go f e true c = made n 1 (added_moved r t e c _ n, added_moved r t e c _ 1) (omega arith) (omega arith) (omega (arith, few))
          go f e false c =
              made (r.sum + n) (r.summed + 1) (added_more r t e c _ n, added_more r t e c _ 1)
              (omega (arith, few_stay f e c)) (omega (arith, a.called)) (omega (arith, a.sum, few))
