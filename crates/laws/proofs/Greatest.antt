-- Laws of the greatest number at which a test holds.
use Prim.Native.Nat.{ℕ, zero, suc, ◌≤◌, ◌<◌}
use mathlib.Core.Bool.{Bool, true, false, false≢true}
use mathlib.Core.Path.{◌≡◌, refl, sym, ap, ◌∙◌}
use mathlib.Core.Logic.{⊎_elim}
use native.Mathlib.Omega.{arith}
use native.Mathlib.Nat.{eq-or-lt_of_le}
use Rattle.laws.specs.First.{row}
use Rattle.laws.specs.Greatest.{greatest}
use Rattle.laws.proofs.First.{row_applies, row_skipped}

module _ (test : ℕ → Bool) where
  -- n itself, where the test holds there
  pub greatest_last : (n : ℕ) → test n ≡ true → greatest test n ≡ n
  unfolding greatest
  greatest_last zero e = refl
  greatest_last (suc n) e = row_applies _ _ _ e

  -- numbers at the end at which it fails can be left out
  passed : (n : ℕ) → test (suc n) ≡ false → greatest test (suc n) ≡ greatest test n
  unfolding greatest
  passed n e = row_skipped _ _ _ e

  pub greatest_below : (m n : ℕ) → m ≤ n → ((j : ℕ) → m < j → j ≤ n → test j ≡ false) → greatest test n ≡ greatest test m
  greatest_below m zero l fails = let e : 0 ≡ m = omega (arith, l) in ap (greatest test) e
  greatest_below m (suc n) l fails =
      ⊎_elim
      (λ e. ap (greatest test) (sym e))
      (λ k. passed n (fails (suc n) k (omega arith)) ∙ greatest_below m n (omega (arith, k)) (λ j a b. fails j a (omega (arith, b))))
      (eq-or-lt_of_le l)

  pub greatest_low : (n k : ℕ) → k ≤ n → test k ≡ true → k ≤ greatest test n
  greatest_low zero k l e = omega (arith, l)
  greatest_low (suc n) k l e = go (test (suc n)) refl (λ m. greatest_low n k m e)
    where
      go : (t : Bool) → test (suc n) ≡ t → (k ≤ n → k ≤ greatest test n) → k ≤ greatest test (suc n)
      go true q below = rw (greatest_last (suc n) q) l
      go false q below =
          rw (passed n q) (⊎_elim (λ p. absurd (false≢true (sym q ∙ ap test (sym p) ∙ e))) (λ m. below (omega (arith, m))) (eq-or-lt_of_le l))

  -- g is the greatest number up to n at which the test holds
  pub record Greatest (n g : ℕ) : Type 0 where
    pub high : g ≤ n
    pub holds : test g ≡ true
    pub fails : (j : ℕ) → g < j → j ≤ n → test j ≡ false

  last : (n : ℕ) → test n ≡ true → Greatest n n
  last n e = record { high = omega arith; holds = e; fails = λ j a b. absurd (omega (arith, a, b)) }

  one_more : (n g : ℕ) → test (suc n) ≡ false → Greatest n g → Greatest (suc n) g
  one_more n g e r =
      record {
        high = omega (arith, r.high);
        holds = r.holds;
        fails = λ j a b. ⊎_elim (λ p. ap test p ∙ e) (λ m. r.fails j a (omega (arith, m))) (eq-or-lt_of_le b);
      }

  -- where the test holds at some k up to n, there is such a number
  pub greatest_there : (n k : ℕ) → k ≤ n → test k ≡ true → Greatest n (greatest test n)
  unfolding greatest
  greatest_there zero k l e = let z : k ≡ 0 = omega (arith, l) in last 0 (ap test (sym z) ∙ e)
  greatest_there (suc n) k l e = go (test (suc n)) refl (λ m. greatest_there n k m e)
    where
      go : (t : Bool) → test (suc n) ≡ t → (k ≤ n → Greatest n (greatest test n)) → Greatest (suc n) (greatest test (suc n))
      go true q below = rw (greatest_last (suc n) q) (last (suc n) q)
      go false q below =
          rw (passed n q)
          (⊎_elim (λ p. absurd (false≢true (sym q ∙ ap test (sym p) ∙ e))) (λ m. one_more n _ q (below (omega (arith, m)))) (eq-or-lt_of_le l))

-- tests that agree up to n have the same
pub greatest_ext : (f g : ℕ → Bool) (n : ℕ) → ((j : ℕ) → j ≤ n → f j ≡ g j) → greatest f n ≡ greatest g n
unfolding greatest
greatest_ext f g zero same = refl
greatest_ext f g (suc n) same = λ i. row (same (suc n) (omega arith) i) (suc n) (greatest_ext f g n (λ j l. same j (omega (arith, l))) i)
