-- Laws of the longest way out, on segments whose followers have higher numbers: it is a segment and the longer of its followers' ways, and it is
-- the greatest number of segments on a way out.
use Prim.Native.Nat.{ℕ, zero, suc, ◌+◌, ◌-◌, ◌≤◌, ◌<◌, max}
use native.Mathlib.Nat.{le_of_lt, max-eq_left, max-eq_right}
use native.Mathlib.Omega.{arith}
use mathlib.Core.Path.{◌≡◌, refl, sym, ap, ◌∙◌}
use mathlib.Core.Bool.{Bool, true, false, ◌||◌}
use mathlib.Core.Logic.{⊎_elim, ◌⊎◌, inl, inr}
use lib.Dec.{eqb, ltb}
use borrow.Author.Tests.{eqb-true, ltb-true, ltb-false, eq-eqb}
use Rattle.format.specs.declared.Following.{Following}
use Rattle.format.specs.declared.Segment.{Segment}
use Rattle.format.specs.Network.{goes_to}
use Rattle.format.proofs.Accepted.{FollowingWithin}
use Rattle.format.proofs.Rows.{rows_within}
use Rattle.emptying.specs.LongestWay.{Way, ends, goes_on, Longest, way_from, longest_way, FormIsLongest}

-- one of the two is meant
goes_by : (j : ℕ) (f : Following) → goes_to j f ≡ true → (f.first ≡ suc j) ⊎ (f.second ≡ suc j)
goes_by j f e = go (eqb f.first (j + 1)) refl
  where
    go : (t : Bool) → eqb f.first (j + 1) ≡ t → (f.first ≡ suc j) ⊎ (f.second ≡ suc j)
    go true q = inl (omega (arith, eqb-true f.first (j + 1) q))
    go false q = inr (omega (arith, eqb-true f.second (j + 1) (sym (ap (λ (t : Bool). t || eqb f.second (j + 1)) q) ∙ e)))

module _ (segment : ℕ → Segment) where
  abbrev pub first : ℕ → ℕ
  first i = (segment i).following.first

  abbrev pub second : ℕ → ℕ
  second i = (segment i).following.second

  off_any : (m : ℕ) → way_from segment m 0 ≡ 0
  unfolding way_from
  off_any zero = refl
  off_any (suc m) = refl

  from_high : (m k : ℕ) → way_from segment m k ≤ m
  unfolding way_from
  from_high zero k = omega arith
  from_high (suc m) zero = omega arith
  from_high (suc m) (suc i) = omega (arith, from_high m (first i), from_high m (second i))

  pub way_high : (n i : ℕ) → longest_way segment n i ≤ n
  unfolding longest_way
  way_high n i = omega (arith, from_high (n - i) (suc i))

  -- goes on to the follower with number suc j
  by_first : {i j m : ℕ} → first i ≡ suc j → Way segment j m → Way segment i (suc m)
  by_first {i} {j} e p = goes_on (ap (λ (t : Bool). t || eqb (second i) (j + 1)) (eq-eqb (first i) (j + 1) (omega (arith, e)))) p

  by_second : {i j m : ℕ} → second i ≡ suc j → Way segment j m → Way segment i (suc m)
  by_second {i} {j} e p = goes_on (go (eqb (first i) (j + 1)) (eq-eqb (second i) (j + 1) (omega (arith, e)))) p
    where
      go : (t : Bool) {u : Bool} → u ≡ true → (t || u) ≡ true
      go true e = refl
      go false e = e

  -- the number of segments on the longest way out of number k of n, 0 off the road
  abbrev pub way : ℕ → ℕ → ℕ
  way n zero = 0
  way n (suc i) = longest_way segment n i

module _ (segment : ℕ → Segment) (n : ℕ) (onward : (i : ℕ) → i < n → FollowingWithin n i (segment i).following) where
  -- more than the segments from there on are never left
  way_enough : (l m k : ℕ) → k ≤ n → (0 < k → n < l + k) → (0 < k → n < m + k) → way_from segment l k ≡ way_from segment m k
  unfolding way_from
  way_enough zero zero k h p q = refl
  way_enough zero (suc m) zero h p q = refl
  way_enough zero (suc m) (suc i) h p q = absurd (omega (arith, p (omega arith)))
  way_enough (suc l) zero zero h p q = refl
  way_enough (suc l) zero (suc i) h p q = absurd (omega (arith, q (omega arith)))
  way_enough (suc l) (suc m) zero h p q = refl
  way_enough (suc l) (suc m) (suc i) h p q =
      let o = onward i h in
      let one = way_enough l m (first segment i) o.first_high (λ s. omega (arith, o.first_higher s, p (omega arith))) (λ s. omega (arith, o.first_higher s, q (omega arith))) in
      let two = way_enough l m (second segment i) o.second_high (λ s. omega (arith, o.second_higher s, p (omega arith))) (λ s. omega (arith, o.second_higher s, q (omega arith))) in
      simp (one, two)

  way_is : (m k : ℕ) → k ≤ n → (0 < k → n < m + k) → way_from segment m k ≡ way segment n k
  unfolding longest_way
  way_is m zero h p = off_any segment m
  way_is m (suc i) h p = way_enough m (n - i) (suc i) h p (λ _. omega arith)

  -- a segment, and the longer of its followers' ways
  pub way_on : (i : ℕ) → i < n → longest_way segment n i ≡ suc (max (way segment n (first segment i)) (way segment n (second segment i)))
  unfolding longest_way
  way_on i l =
      let o = onward i l in
      let m = n - suc i in
      sym (way_is (suc m) (suc i) l (λ _. omega arith))
      ∙ (λ j. suc (max (way_is m (first segment i) o.first_high (λ s. omega (arith, o.first_higher s)) j)
      (way_is m (second segment i) o.second_high (λ s. omega (arith, o.second_higher s)) j)))

  -- ---- it is the greatest

  none_longer : {i m : ℕ} → i < n → Way segment i m → m ≤ longest_way segment n i
  none_longer l (ends {i} a b) = omega (arith, way_on i l)
  none_longer l (goes_on {i} {j} {m} g rest) =
      let o = onward i l in
      ⊎_elim
      (λ (e : first segment i ≡ suc j). omega (arith, none_longer (omega (arith, e, o.first_high)) rest, way_on i l, ap (way segment n) e))
      (λ (e : second segment i ≡ suc j). omega (arith, none_longer (omega (arith, e, o.second_high)) rest, way_on i l, ap (way segment n) e))
      (goes_by j (segment i).following g)

  -- segment i and the longer of its followers' ways, which have at most m segments
  module _ (m i : ℕ) (o : FollowingWithin n i (segment i).following) (rest : (j : ℕ) → j < n → i < j → Way segment j (way_from segment m (suc j))) where
    longer : (j b : ℕ) → first segment i ≡ suc j → second segment i ≡ b → (t : Bool) → ltb (way_from segment m (suc j)) (way_from segment m b) ≡ t
        → Way segment i (suc (max (way_from segment m (suc j)) (way_from segment m b)))
    longer j b e q false t =
        rw (max-eq_left (ltb-false _ _ t)) (by_first segment e (rest j (omega (arith, e, o.first_high)) (omega (arith, e, o.first_higher (omega (arith, e))))))
    longer j zero e q true t = absurd (omega (arith, ltb-true (way_from segment m (suc j)) (way_from segment m zero) t, off_any segment m))
    longer j (suc k) e q true t =
        rw (max-eq_right (le_of_lt (ltb-true _ _ t))) (by_second segment q (rest k (omega (arith, q, o.second_high)) (omega (arith, q, o.second_higher (omega (arith, q))))))

    by_followers : (a b : ℕ) → first segment i ≡ a → second segment i ≡ b → Way segment i (suc (max (way_from segment m a) (way_from segment m b)))
    by_followers zero zero e q = rw (off_any segment m) (ends e q)
    by_followers zero (suc k) e q = absurd (omega (arith, e, o.second_later (omega (arith, q))))
    by_followers (suc j) b e q = longer j b e q (ltb (way_from segment m (suc j)) (way_from segment m b)) refl

  one_as_long : (m i : ℕ) → i < n → n ≤ m + i → Way segment i (way_from segment m (suc i))
  unfolding way_from
  one_as_long zero i l h = absurd (omega (arith, l, h))
  one_as_long (suc m) i l h = by_followers m i (onward i l) (λ j a b. one_as_long m j a (omega (arith, h, b))) (first segment i) (second segment i) refl refl

  is_longest : (i : ℕ) → i < n → Longest segment i (longest_way segment n i)
  unfolding longest_way
  is_longest i l = record { one = one_as_long (n - i) i l (omega arith); most = λ k p. none_longer l p }

pub form_is_longest : FormIsLongest
form_is_longest h entry segment z i l = is_longest segment h.size (rows_within h entry segment z).onward i l
