-- Which segments can go on to segment i.
use Prim.Native.Nat.{ℕ, ◌+◌, ◌<◌, ◌≤◌}
use mathlib.Core.Bool.{false, ◌||◌}
use mathlib.Core.Path.{◌≡◌}
use native.Mathlib.Omega.{arith}
use borrow.Author.Tests.{ne_eqb}
use Rattle.laws.specs.First.{some_below}
use Rattle.laws.proofs.SomeBelow.{some_short}
use Rattle.format.specs.declared.Following.{Following}
use Rattle.format.specs.declared.Segment.{Segment}
use Rattle.format.specs.Network.{goes_to, has_before}
use Rattle.format.proofs.Accepted.{FollowingWithin}

-- what follows segment k does not go on to segment k or one before it
pub not_back : (n k i : ℕ) (f : Following) → FollowingWithin n k f → i ≤ k → goes_to i f ≡ false
not_back n k i f w l =
    λ j. ne_eqb f.first (i + 1) (λ e. omega (arith, l, e, w.first_higher (omega (arith, e)))) j
    || ne_eqb f.second (i + 1) (λ e. omega (arith, l, e, w.second_higher (omega (arith, e)))) j

-- so those before segment i are below i
pub before_below :
    (segment : ℕ → Segment) (n i : ℕ) → ((k : ℕ) → k < n → FollowingWithin n k (segment k).following) → i < n
    → has_before segment n i ≡ some_below (λ k. goes_to i (segment k).following) i
unfolding has_before
before_below segment n i each l = some_short _ n i (omega (arith, l)) (λ k a b. not_back n k i (segment k).following (each k b) a)
