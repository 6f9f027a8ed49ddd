-- The density that bounds a mainstream origin by speed: that there is one.
use Prim.Native.Nat.{ℕ, ◌≤◌, ◌<◌}
use native.Mathlib.Omega.{arith}
use lib.Dec.{leb}
use borrow.Author.Tests.{leb-true, leb-false, le-leb}
use Rattle.laws.proofs.Greatest.{greatest_low, greatest_there}
use Rattle.metanet.specs.Flow.{limiting_density}

-- g is the greatest density up to J whose entry is at least y, and it is at least C
pub record Limiting (e : ℕ → ℕ) (critical jam y g : ℕ) : Type 0 where
  pub low : critical ≤ g
  pub high : g ≤ jam
  pub entry : y ≤ e g
  pub past : (j : ℕ) → g < j → j ≤ jam → e j < y

-- there is one where it is used: where y is below the entry at C
pub limiting_density_lem : (e : ℕ → ℕ) (critical jam y : ℕ) → critical ≤ jam → y < e critical → Limiting e critical jam y (limiting_density e jam y)
unfolding limiting_density
limiting_density_lem e critical jam y c l =
    let serves = le-leb y (e critical) (omega arith) in
    let g = greatest_there (λ j. leb y (e j)) jam critical c serves in
    record {
      low = greatest_low (λ j. leb y (e j)) jam critical c serves;
      high = g.high;
      entry = leb-true _ _ g.holds;
      past = λ j a b. leb-false _ _ (g.fails j a b);
    }
