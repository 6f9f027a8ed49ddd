-- R + q for a q that is not above 0.
use Prim.Native.Nat.{ℕ, zero, suc, ◌-◌}
use mathlib.Core.Path.{◌≡◌, refl}
use native.Mathlib.Omega.{arith}
use lib.IntN.{pos, neg_ℤ}
use Rattle.metanet.specs.Flow.{moved}

pub moved_down : (r k : ℕ) → moved r (neg_ℤ (pos k)) ≡ r - k
moved_down r zero = omega arith
moved_down r (suc k) = refl
