-- Laws of "some number below n": what makes it hold, and a loop that looks from n - 1 downwards.
use Prim.Native.Nat.{ℕ, zero, suc, ◌-◌, ◌<◌, ◌≤◌}
use mathlib.Core.Bool.{Bool, true, false, ◌||◌}
use mathlib.Core.Path.{◌≡◌, refl, sym, ap, ◌∙◌}
use mathlib.Core.Logic.{⊎_elim}
use native.Mathlib.Omega.{arith}
use native.Mathlib.Nat.{le_refl, eq-or-lt_of_le, le_of_suc-le-suc, not-suc-le-zero}
use Rattle.laws.specs.First.{some_below}

-- only the numbers below n count
pub some_ext : (f g : ℕ → Bool) (n : ℕ) → ((k : ℕ) → k < n → f k ≡ g k) → some_below f n ≡ some_below g n
unfolding some_below
some_ext f g zero each = refl
some_ext f g (suc n) each = λ j. some_ext f g n (λ k l. each k (omega (arith, l))) j || each n (omega arith) j

module _ (test : ℕ → Bool) where
  -- a number that is found
  pub some_at : (n k : ℕ) → k < n → test k ≡ true → some_below test n ≡ true
  unfolding some_below
  some_at zero k l e = absurd (not-suc-le-zero l)
  some_at (suc n) k l e = ⊎_elim (λ q. last (some_below test n) (test n) (ap test (sym q) ∙ e)) (λ lt. ap (λ (t : Bool). t || test n) (some_at n k lt e)) (eq-or-lt_of_le (le_of_suc-le-suc l))
    where
      last : (s t : Bool) → t ≡ true → (s || t) ≡ true
      last true t e = refl
      last false t e = e

  some_step : (n : ℕ) → test n ≡ false → some_below test (suc n) ≡ some_below test n
  unfolding some_below
  some_step n e = ap (λ (t : Bool). some_below test n || t) e ∙ none (some_below test n)
    where
      none : (s : Bool) → (s || false) ≡ s
      none true = refl
      none false = refl

  -- where the test fails from i on, it is enough to look below i
  pub some_short : (n i : ℕ) → i ≤ n → ((k : ℕ) → i ≤ k → k < n → test k ≡ false) → some_below test n ≡ some_below test i
  some_short zero i l each = ap (some_below test) (omega (arith, l))
  some_short (suc n) i l each =
      ⊎_elim
      (λ e. ap (some_below test) (sym e))
      (λ lt. let h : i ≤ n = le_of_suc-le-suc lt in some_step n (each n h (omega arith)) ∙ some_short n i h (λ k a b. each k a (omega (arith, b))))
      (eq-or-lt_of_le l)

  -- and where it fails everywhere, there is none
  pub some_none : (n : ℕ) → ((k : ℕ) → k < n → test k ≡ false) → some_below test n ≡ false
  unfolding some_below
  some_none n each = some_short n 0 (omega arith) (λ k a b. each k b)

  -- a loop that looks at n - 1, n - 2, ..: what it has to find is among the j numbers that are left
  pub record Looking (n j : ℕ) : Type 0 where
    pub within : j ≤ n
    pub left : some_below test n ≡ some_below test j

  pub looking_begun : (n : ℕ) → Looking n n
  looking_begun n = record { within = le_refl n; left = refl }

  -- the three ends of a turn: found, passed, and none left
  module _ {n j : ℕ} (s : Looking n j) where
    pub looking_found : 0 < j → test (j - 1) ≡ true → some_below test n ≡ true
    looking_found l e = some_at n (j - 1) (omega (arith, l, s.within)) e

    pub looking_passed : 0 < j → test (j - 1) ≡ false → Looking n (j - 1)
    looking_passed l e = record { within = omega (arith, s.within); left = s.left ∙ some_short j (j - 1) (omega arith) (λ k a b. ap test (omega (arith, a, b, l)) ∙ e) }

    pub looking_end : j ≤ 0 → some_below test n ≡ false
    unfolding some_below
    looking_end z = let none : j ≡ 0 = omega (arith, z) in s.left ∙ ap (some_below test) none
