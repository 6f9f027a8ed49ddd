-- The density that bounds a mainstream origin by speed, found among the entries past the critical density: those of C + 1 .. J.
use Rattle.std.proofs.Common.{◌≡◌, ◌+◌, ◌-◌, ◌≤◌, ◌<◌, ℕ, zero, suc, true, false, List, length, leb, slice_index_or, sym, ap, ◌∙◌, add-zero, arith, le-leb, leb-true}
use Rattle.std.specs.List.Sorted.{IsPartitionedBy, IsPartitionPoint}
use Rattle.laws.proofs.Greatest.{greatest_last, greatest_below}
use Rattle.format.proofs.Accepted.{CurveWithin}
use Rattle.format.proofs.Rows.{entries_fall}
use Rattle.metanet.specs.Flow.{limiting_density}

-- xs are the entries of the curve e past c, up to jam
module _ (e : ℕ → ℕ) (c jam : ℕ) (xs : List ℕ) (len : length xs ≡ jam - c) (is : (k d : ℕ) → k < jam - c → slice_index_or xs k d ≡ e (c + 1 + k)) (y : ℕ) where
  -- where one is at least y, so are those before it
  pub past_fall : CurveWithin e → jam ≤ 200 → IsPartitionedBy (λ x. leb y x) xs
  past_fall w high i j d l m t =
      let at : (k : ℕ) → k < length xs → slice_index_or xs k d ≡ e (c + 1 + k) = λ k h. is k d (omega (arith, h, len)) in
      let reach : y ≤ e (c + 1 + j) = rw (sym (at j m)) (leb-true _ _ t) in
      rw (at i (omega (arith, l, m))) (le-leb y (e (c + 1 + i)) (omega (arith, reach, entries_fall e w (c + 1 + i) (c + 1 + j) (omega (arith, l)) (omega (arith, m, len, high)))))

  pub past_found : (i : ℕ) → c ≤ jam → y ≤ e c → i ≤ length xs
      → IsPartitionPoint (λ x. leb y x ≡ true) (λ x. leb y x ≡ false) xs i → c + i ≡ limiting_density e jam y
  unfolding limiting_density
  past_found i l serves within (pass, fail) =
      sym (greatest_below (λ j. leb y (e j)) (c + i) jam (omega (arith, within, len, l)) fails ∙ greatest_last (λ j. leb y (e j)) (c + i) (holds i within pass))
    where
      fails : (j : ℕ) → c + i < j → j ≤ jam → leb y (e j) ≡ false
      fails j a b =
          let k : ℕ = j - c - 1 in
          let there : c + 1 + k ≡ j = omega (arith, a) in
          ap (λ (m : ℕ). leb y (e m)) (sym there) ∙ ap (leb y) (sym (is k 0 (omega (arith, a, b)))) ∙ fail k 0 (omega (arith, a)) (omega (arith, a, b, len))

      holds : (i : ℕ) → i ≤ length xs → ((k d : ℕ) → 0 ≤ k → k < i → leb y (slice_index_or xs k d) ≡ true) → leb y (e (c + i)) ≡ true
      holds zero h p = ap (λ (m : ℕ). leb y (e m)) (add-zero c) ∙ le-leb y (e c) serves
      holds (suc k) h p = ap (λ (m : ℕ). leb y (e m)) (omega arith) ∙ ap (leb y) (sym (is k 0 (omega (arith, h, len)))) ∙ p k 0 (omega arith) (omega arith)
