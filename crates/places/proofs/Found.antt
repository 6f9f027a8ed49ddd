-- What a search finds is the first test that holds, of a list of tests or of the numbers below n.
use denote.Ref.{Bor}
use denote.Param.Members.{Mut}
use Rattle.std.proofs.Common.{◌≡◌, ℕ, zero, suc, ◌+◌, ◌<◌, ◌≤◌, add-one, zero-add, Bool, true, false, ◌||◌, cond, List, [], ◌∷◌, ◌++◌, length, get_or, map-id, refl, sym, ap, ◌∙◌, arith}
use Rattle.std.proofs.Math.Bool.{or-false}
use Rattle.std.proofs.iter.Yields.{nat_range_steps}
use Rattle.std.proofs.lemmas.Iterator.{first_from_Range}
use Rattle.std.proofs.lemmas.List.Folds.{list_any-append}
use Rattle.std.proofs.lemmas.List.FromFn.{map-range_with_len_more}
use Rattle.std.proofs.lemmas.List.Recursion.{is_position_or_len}
use Rattle.std.proofs.lemmas.List.Sums.{position_or_len_is}
use Rattle.std.specs.Bool.{⊤}
use Rattle.std.specs.Fn.{CalledAt}
use Rattle.std.specs.Iterator.{YieldsThen}
use Rattle.std.specs.List.{FoldsTo, AllWithin, HoldsAt, list_any, range_with_len}
use Rattle.std.specs.Option.{unwrap_or}
use Rattle.std.specs.Prelude.{Option, Some, None, MatchOption}
use Rattle.std.specs.declared.ops.Range.{Range}
use Rattle.laws.specs.First.{row, first_held, some_below}
use Rattle.laws.specs.Lists.{table}
use Rattle.laws.proofs.Lists.{length-table, get_or-table}

-- no test before i holds, and test i does, unless i is their end
is_first : (ts : List Bool) (i : ℕ) → i ≤ length ts → ((k : ℕ) → k < i → get_or ts k false ≡ false) → (i < length ts → get_or ts i false ≡ true) → i ≡ first_held ts
unfolding first_held row
is_first ts i h fails holds = sym (is_position_or_len first_held (λ t. t) refl next ts ∙ position_or_len_is (λ t. t) ts i false h fails holds)
  where
    next : (t : Bool) (ts : List Bool) → first_held (t ∷ ts) ≡ cond t 0 (1 + first_held ts)
    next true ts = refl
    next false ts = omega arith

-- `position` in a list
pub first_in_list : (ts : List Bool) (r : Option ℕ) → MatchOption r (AllWithin (λ t. t ≡ false) ts 0 (length ts)) (λ i. (i < length ts) × HoldsAt (λ t. t ≡ true) ts i × AllWithin (λ t. t ≡ false) ts 0 i) → unwrap_or r (length ts) ≡ first_held ts
first_in_list ts None f = is_first ts (length ts) (omega arith) (λ k l. f k false (omega arith) l) (λ l. absurd (omega (arith, l)))
first_in_list ts (Some i) f = is_first ts i (omega (arith, f.0)) (λ k l. f.2 k false (omega arith) l) (λ l. f.1 false)

module _ (test : ℕ → Bool) (n : ℕ) where
  is_below : (i : ℕ) → i ≤ n → ((k : ℕ) → k < i → test k ≡ false) → (i < n → test i ≡ true) → i ≡ first_held (table test n)
  is_below i h fails holds =
      let e = length-table test n in
      let at : (k : ℕ) → k < n → get_or (table test n) k false ≡ test k = λ k l. get_or-table test n k false l in
      is_first (table test n) i (omega (arith, e)) (λ k l. at k (omega (arith, l, h)) ∙ fails k l) (λ l. let m : i < n = omega (arith, l, e) in at i m ∙ holds m)

  is_found : (r : Option ℕ) → MatchOption r ((k : ℕ) → 0 ≤ k → k < n → test k ≡ false) (λ i. (0 ≤ i) × (i < n) × (test i ≡ true) × ((k : ℕ) → 0 ≤ k → k < i → test k ≡ false)) → unwrap_or r n ≡ first_held (table test n)
  is_found None f = is_below n (omega arith) (λ k l. f k (omega arith) l) (λ l. absurd (omega (arith, l)))
  is_found (Some i) f = is_below i (omega (arith, f.1)) (λ k l. f.3 k (omega arith) l) (λ l. f.2)

  -- `find` in a range, with a closure that computes the test
  pub first_in_range : {F : Type 0} {g : Mut F (Bor ℕ × Unit {0}) Bool} (u : Range ℕ) (f : F) (r : Option ℕ) → (xs : List ℕ) × (j : F) × YieldsThen nat_range_steps (record { start = 0; end = n }) xs r u × FoldsTo (λ p x q. CalledAt g p x false q) f xs j × MatchOption r ⊤ (λ x. (h : F) × CalledAt g j x true h) → ((x : ℕ) (b : Bool) (q : F) → CalledAt g f x b q → (q ≡ f) × (b ≡ test x)) → unwrap_or r n ≡ first_held (table test n)
  first_in_range {g = g} u f r ran computes =
      is_found r (first_from_Range {g = g} _ u f r (λ x. test x ≡ true) (λ x. test x ≡ false) ran (λ x q k. sym (computes x true q k).1) (λ x q k. let c = computes x false q k in (c.0, sym c.1)))

-- `any` in a range
pub some_in_range : (test : ℕ → Bool) (n : ℕ) → list_any test (range_with_len 0 n) ≡ some_below test n
unfolding some_below
some_in_range test zero = refl
some_in_range test (suc n) =
    let more : range_with_len 0 (n + 1) ≡ range_with_len 0 n ++ n ∷ [] = simp map-id at (map-range_with_len_more (λ (k : ℕ). k) 0 n n (zero-add n)) in
    ap (λ (m : ℕ). list_any test (range_with_len 0 m)) (sym (add-one n))
    ∙ ap (list_any test) more
    ∙ list_any-append test (range_with_len 0 n) (n ∷ [])
    ∙ (λ j. some_in_range test n j || or-false (test n) j)
