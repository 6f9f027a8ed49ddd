-- The chain, which version 1 means, is refused by neither 27 nor 28.
use Prim.Native.Nat.{ℕ, zero, suc, ◌+◌, ◌<◌, ◌≤◌}
use mathlib.Core.Bool.{Bool, true, false, cond, not, ◌&&◌, ◌||◌}
use mathlib.Core.List.{[], ◌∷◌}
use mathlib.Core.Path.{◌≡◌, refl, ap, ◌∙◌}
use native.Mathlib.Omega.{arith}
use lib.Dec.{ltb, leb, eqb}
use borrow.Author.Tests.{ltb-true, le-ltb, lt-ltb, lt-leb, eq-eqb, ne_eqb}
use Rattle.laws.specs.First.{any_of}
use Rattle.laws.proofs.First.{row_skipped}
use Rattle.laws.proofs.SomeBelow.{some_at}
use Rattle.format.specs.declared.Head.{Head}
use Rattle.format.specs.declared.Following.{Following}
use Rattle.format.specs.declared.Segment.{Segment}
use Rattle.format.specs.Network.{chain, share_tests, follower_tests, followers_bad, goes_to, has_before, origin_number}

pub chain_followers : (h : Head) (i : ℕ) → followers_bad h i (chain h.size i) ≡ false
unfolding followers_bad chain any_of
chain_followers h i = go (ltb (i + 1) h.size) refl
  where
    go : (t : Bool) → ltb (i + 1) h.size ≡ t → any_of (follower_tests h i (record { first = cond t (i + 2) 0; second = 0; share = 1000 })) ≡ false
    go true e =
        let within : i + 2 ≤ h.size = omega (arith, ltb-true (i + 1) h.size e) in
        let lower : leb (i + 2) (i + 1) ≡ false = lt-leb (i + 2) (i + 1) (omega arith) in
        let some : ltb 0 (i + 2) ≡ true = lt-ltb 0 (i + 2) (omega arith) in
        let above : ltb h.size (i + 2) ≡ false = le-ltb _ _ within in
        let last : ltb h.size 0 ≡ false = le-ltb h.size 0 (omega arith) in
        let none : eqb (i + 2) 0 ≡ false = ne_eqb (i + 2) 0 (λ z. omega (arith, z)) in
        rw (some, lower, above, last, none) refl
    go false e = let last : ltb h.size 0 ≡ false = le-ltb h.size 0 (omega arith) in rw last refl

pub chain_share : (n i : ℕ) (s : Segment) → s.following ≡ chain n i → any_of (share_tests s) ≡ false
unfolding chain any_of
chain_share n i s e = ap (λ (f : Following). any_of (ltb 1000 f.share ∷ (eqb f.second 0 && not (eqb f.share 1000)) ∷ [])) e

-- ---- segments of which each is followed by the next

module _ (segment : ℕ → Segment) (n : ℕ) (chained : (k : ℕ) → k < n → (segment k).following ≡ chain n k) where
  pub chain-before : (i : ℕ) → suc i < n → has_before segment n (suc i) ≡ true
  unfolding has_before chain
  chain-before i l =
      let next : ltb (i + 1) n ≡ true = lt-ltb (i + 1) n (omega (arith, l)) in
      let first : (segment i).following.first ≡ i + 2 = ap (λ (f : Following). f.first) (chained i (omega (arith, l))) ∙ rw next refl in
      let here : (segment i).following.first ≡ suc i + 1 = omega (arith, first) in
      some_at (λ k. goes_to (suc i) (segment k).following) n i (omega (arith, l)) (ap (λ (t : Bool). t || eqb (segment i).following.second (suc i + 1)) (eq-eqb _ _ here))

  pub chain-origin : (segment 0).origin ≡ 1 → (i : ℕ) → i < n → origin_number segment n i ≡ 0
  unfolding origin_number
  chain-origin one zero l = row_skipped _ _ _ (ap (λ (x : ℕ). eqb x 0 && not (has_before segment n 0)) one)
  chain-origin one (suc i) l = row_skipped _ _ _ (ap (λ (t : Bool). eqb (segment (suc i)).origin 0 && not t) (chain-before i l) ∙ none (eqb (segment (suc i)).origin 0))
    where
      none : (t : Bool) → (t && false) ≡ false
      none true = refl
      none false = refl
