-- The law that carries F-7: where nothing comes from outside, P falls by at least all outflows, since the way out of what goes on is shorter by
-- at least one segment. Of any outflows that are at most N.
use Prim.Native.Nat.{ℕ, suc, ◌+◌, ◌*◌, ◌≤◌, ◌<◌, max}
use native.Mathlib.Nat.{add-mul, mul-suc, mul-zero, mul-le-mul_left, le-max_left, le-max_right}
use native.Mathlib.Omega.{arith}
use mathlib.Core.Path.{◌≡◌, sym, ap, ◌∙◌}
use Rattle.laws.specs.Sums.{sum_of}
use Rattle.laws.proofs.Sums.{sum_ext, sum-add}
use Rattle.format.specs.declared.Segment.{Segment}
use Rattle.format.proofs.Accepted.{FollowingWithin}
use Rattle.metanet.specs.Junction.{reaching}
use Rattle.metanet.proofs.Sending.{Moves, sum-le, sum_front, arrives}
use Rattle.emptying.specs.LongestWay.{longest_way}
use Rattle.emptying.proofs.WayLaws.{first, second, way, way_on}

module _ (segment : ℕ → Segment) (n : ℕ) (onward : (i : ℕ) → i < n → FollowingWithin n i (segment i).following) where
  -- the sum of each count times its longest way out
  abbrev pub weighed : (ℕ → ℕ) → ℕ
  weighed count = sum_of (λ i. count i * longest_way segment n i) n

  module _ {count came out exit a b after : ℕ → ℕ} (m : Moves (first segment) (second segment) n count came out exit a b after) where
    abbrev w : ℕ → ℕ
    w k = way segment n k

    abbrev passed : ℕ → ℕ
    passed d = reaching (first segment) (second segment) a b n d

    -- what goes on has less before it than it had, by at least all that flowed out
    sent_less : (i : ℕ) → i < n → (a i * w (first segment i) + b i * w (second segment i)) + out i ≤ out i * w (suc i)
    sent_less i l =
        let t : ℕ = max (w (first segment i)) (w (second segment i)) in
        let x = mul-le-mul_left (a i) (le-max_left (w (first segment i)) (w (second segment i))) in
        let y = mul-le-mul_left (b i) (le-max_right (w (first segment i)) (w (second segment i))) in
        let z : out i * t ≡ exit i * t + (a i * t + b i * t) =
        ap (λ (o : ℕ). o * t) (sym (m.splits i l)) ∙ add-mul (exit i) (a i + b i) t ∙ ap (λ (o : ℕ). exit i * t + o) (add-mul (a i) (b i) t) in
        let e : out i * w (suc i) ≡ out i * t + out i = ap (λ (k : ℕ). out i * k) (way_on segment n onward i l) ∙ mul-suc (out i) t in
        omega (arith, x, y, z, e)

    -- what enters the segments, each part weighed where it enters; what leaves the road has no way left
    entered : weighed (λ k. passed (suc k)) ≡ sum_of (λ i. a i * w (first segment i) + b i * w (second segment i)) n
    entered =
        let all = arrives (first segment) (second segment) a b w (suc n) n (λ i l. omega (arith, (onward i l).first_high)) (λ i l. omega (arith, (onward i l).second_high)) in
        omega (arith, all, sum_front (λ d. passed d * w d) n, mul-zero (passed 0))

    one_weighed : ((i : ℕ) → i < n → came i ≡ 0) → (i : ℕ) → i < n → after i * w (suc i) + out i * w (suc i) ≡ count i * w (suc i) + passed (suc i) * w (suc i)
    one_weighed none i l =
        let e : after i + out i ≡ count i + passed (suc i) = omega (arith, m.enough i l, m.becomes i l, none i l) in
        sym (add-mul (after i) (out i) (w (suc i))) ∙ ap (λ (o : ℕ). o * w (suc i)) e ∙ add-mul (count i) (passed (suc i)) (w (suc i))

    pub falls : ((i : ℕ) → i < n → came i ≡ 0) → weighed after + sum_of out n ≤ weighed count
    falls none =
        let each = sum_ext _ (λ i. count i * w (suc i) + passed (suc i) * w (suc i)) n (one_weighed none) in
        let before = sum-add (λ i. count i * w (suc i)) (λ i. passed (suc i) * w (suc i)) n in
        let later = sum-add (λ i. after i * w (suc i)) (λ i. out i * w (suc i)) n in
        let less = sum-le (λ i. (a i * w (first segment i) + b i * w (second segment i)) + out i) (λ i. out i * w (suc i)) n sent_less in
        omega (arith, each, before, later, less, entered, sum-add (λ i. a i * w (first segment i) + b i * w (second segment i)) out n)
