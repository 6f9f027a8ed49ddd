-- A row whose rules are all kept does not refuse; so where it refuses, a rule is broken.
use Prim.Native.Nat.{ℕ, ◌+◌, ◌≤◌}
use mathlib.Core.Bool.{Bool, true, false, ◌||◌, ◌&&◌, not, true≢false}
use mathlib.Core.List.{List, [], ◌∷◌, ◌++◌}
use mathlib.Core.Path.{◌≡◌, refl, sym, ap, ◌∙◌}
use native.Mathlib.Omega.{arith}
use native.Mathlib.Nat.{add_assoc}
use lib.Dec.{ltb, eqb}
use lib.ListN.{get_or}
use borrow.Author.Tests.{ltb-false, le-ltb, not-false}
use Rattle.laws.specs.First.{row, or_from, any_of, first_held}
use Rattle.laws.specs.Lists.{table}
use Rattle.laws.specs.BigEndian.{byte_at, u16_at}
use Rattle.laws.proofs.Search.{held}
use Rattle.laws.proofs.Tests.{or_left, or_right, any_of_false, any_of_none, front_false, both_false}
use Rattle.format.specs.Network.{head_bad, head_tests, segment_bad, segment_tests, share_tests, followers_bad, record_rows}
use Rattle.format.specs.File.{has_mark, head_of, head_padding, head_number, record_start, segment_on, record_padding, record_number}
use Rattle.format.specs.Place.{head_rules, record_rules, follower_rules}
use Rattle.format.specs.Placed.{mark_rules}

-- ---- of five rows, which applied

second : (s t u v w : Bool) → row s 1 (row t 2 (row u 3 (row v 4 (row w 5 0)))) ≡ 2 → t ≡ true
unfolding row
second true t u v w e = absurd (omega (arith, e))
second false true u v w e = refl
second false false true v w e = absurd (omega (arith, e))
second false false false true w e = absurd (omega (arith, e))
second false false false false true e = absurd (omega (arith, e))
second false false false false false e = absurd (omega (arith, e))

fourth : (s t u v w : Bool) → row s 1 (row t 2 (row u 3 (row v 4 (row w 5 0)))) ≡ 4 → v ≡ true
unfolding row
fourth true t u v w e = absurd (omega (arith, e))
fourth false true u v w e = absurd (omega (arith, e))
fourth false false true v w e = absurd (omega (arith, e))
fourth false false false true w e = refl
fourth false false false false true e = absurd (omega (arith, e))
fourth false false false false false e = absurd (omega (arith, e))

seventh : (s t u : Bool) → row s 7 (row t 27 (row u 8 0)) ≡ 7 → s ≡ true
unfolding row
seventh true t u e = refl
seventh false true u e = absurd (omega (arith, e))
seventh false false true e = absurd (omega (arith, e))
seventh false false false e = absurd (omega (arith, e))

between : (s t u : Bool) → row s 7 (row t 27 (row u 8 0)) ≡ 27 → t ≡ true
unfolding row
between true t u e = absurd (omega (arith, e))
between false true u e = refl
between false false true e = absurd (omega (arith, e))
between false false false e = absurd (omega (arith, e))

-- ---- rules that are kept

and_kept : (s t u : Bool) → not s ≡ false → not t ≡ false → not u ≡ false → (s && t && u) ≡ true
and_kept s t u p q r = rw (not-false s p, not-false t q, not-false u r) refl

or_kept : (s t u : Bool) → s ≡ false → t ≡ false → u ≡ false → (s || (t || u)) ≡ false
or_kept s t u p q r = rw (p, q, r) refl

two : (s t : Bool) → s ≡ false → t ≡ false → any_of (s ∷ t ∷ []) ≡ false
unfolding any_of or_from
two s t p q = rw (p, q) refl

three : (s t u : Bool) → s ≡ false → t ≡ false → u ≡ false → any_of (s ∷ t ∷ u ∷ []) ≡ false
unfolding any_of or_from
three s t u p q r = rw (p, q, r) refl

module _ (b : List ℕ) where
  abbrev not_zero : ℕ → Bool
  not_zero at = ltb 0 (byte_at b at)

  abbrev head_zeros : List Bool
  head_zeros = not_zero 11 ∷ not_zero 14 ∷ not_zero 15 ∷ []

  abbrev record_zeros : ℕ → List Bool
  record_zeros i = let at = record_start (head_of b) i in not_zero (at + 7) ∷ not_zero (at + 14) ∷ not_zero (at + 15) ∷ []

  zero_pair : (at : ℕ) → ltb 0 (byte_at b at) ≡ false → ltb 0 (byte_at b (at + 1)) ≡ false → ltb 0 (u16_at b at) ≡ false
  zero_pair at e f =
      let x : byte_at b at ≤ 0 = ltb-false 0 (byte_at b at) e in
      let y : byte_at b (at + 1) ≤ 0 = ltb-false 0 (byte_at b (at + 1)) f in
      le-ltb 0 (u16_at b at) (omega (arith, x, y))

  mark_kept : any_of (mark_rules b) ≡ false → has_mark b ≡ true
  unfolding table
  mark_kept q = let each = any_of_false (mark_rules b) q in and_kept (eqb (byte_at b 0) 70) (eqb (byte_at b 1) 87) (eqb (byte_at b 2) 78) (each 0) (each 1) (each 2)

  head_kept : any_of (head_rules b) ≡ false → (head_bad (head_of b) || head_padding b) ≡ false
  unfolding head_bad
  head_kept q =
      let each = any_of_false (head_rules b) q in
      or_kept _ _ _ (any_of_none (head_tests (head_of b)) (front_false (head_tests (head_of b)) head_zeros each)) (each 7) (zero_pair 14 (each 8) (each 9))

  pub record_kept : (i : ℕ) → any_of (record_rules b i) ≡ false → (segment_bad (head_of b) i (segment_on b i) || record_padding b (record_start (head_of b) i)) ≡ false
  unfolding segment_bad
  record_kept i q =
      let each = any_of_false (record_rules b i) q in
      let tests = segment_tests (head_of b) i (segment_on b i) in
      let fields : any_of tests ≡ false = any_of_none tests (front_false tests (record_zeros i ++ share_tests (segment_on b i)) each) in
      let share : any_of (share_tests (segment_on b i)) ≡ false = two _ _ (each 15) (each 16) in
      let all : (any_of tests || any_of (share_tests (segment_on b i))) ≡ false = rw (fields, share) refl in
      or_kept _ _ _ all (each 12) (zero_pair (record_start (head_of b) i + 14) (each 13) (ap not_zero (add_assoc (record_start (head_of b) i) 14 1) ∙ each 14))

  -- and a row that does not refuse has its rules kept
  pub record_passed : (i : ℕ) → (segment_bad (head_of b) i (segment_on b i) || record_padding b (record_start (head_of b) i)) ≡ false → any_of (record_rules b i) ≡ false
  unfolding segment_bad
  record_passed i e =
      let at = record_start (head_of b) i in
      let tests = segment_tests (head_of b) i (segment_on b i) in
      let share = share_tests (segment_on b i) in
      let fields : (any_of tests || any_of share) ≡ false = or_left _ (record_padding b at) e in
      let padding : (not_zero (at + 7) || ltb 0 (u16_at b (at + 14))) ≡ false = or_right (any_of tests || any_of share) _ e in
      let pair : u16_at b (at + 14) ≤ 0 = ltb-false 0 (u16_at b (at + 14)) (or_right (not_zero (at + 7)) _ padding) in
      let next : byte_at b (at + 14 + 1) ≡ byte_at b (at + 15) = ap (byte_at b) (add_assoc at 14 1) in
      let high : not_zero (at + 14) ≡ false = le-ltb 0 (byte_at b (at + 14)) (omega (arith, pair)) in
      let low : not_zero (at + 15) ≡ false = le-ltb 0 (byte_at b (at + 15)) (omega (arith, pair, next)) in
      let zeros : any_of (record_zeros i) ≡ false = three _ _ _ (or_left (not_zero (at + 7)) _ padding) high low in
      both_false tests (record_zeros i ++ share) (or_left (any_of tests) _ fields) (both_false (record_zeros i) share zeros (or_right (any_of tests) _ fields))

  -- ---- so the first rule that is found is broken

  broken : (rules : List Bool) {t : Bool} → t ≡ true → (any_of rules ≡ false → t ≡ false) → get_or rules (first_held rules) false ≡ true
  broken rules e kept = held rules (λ q. true≢false (sym e ∙ kept q))

  pub mark_broken : head_number b ≡ 2 → get_or (mark_rules b) (first_held (mark_rules b)) false ≡ true
  unfolding head_number
  mark_broken e = broken (mark_rules b) (second _ (not (has_mark b)) _ _ _ e) (λ q. ap not (mark_kept q))

  pub head_broken : head_number b ≡ 4 → get_or (head_rules b) (first_held (head_rules b)) false ≡ true
  unfolding head_number
  head_broken e = broken (head_rules b) (fourth _ _ _ (head_bad (head_of b) || head_padding b) _ e) head_kept

  pub record_broken : (i : ℕ) → record_number b (head_of b) i ≡ 7 → get_or (record_rules b i) (first_held (record_rules b i)) false ≡ true
  unfolding record_number record_rows
  record_broken i e = broken (record_rules b i) (seventh (segment_bad (head_of b) i (segment_on b i) || record_padding b (record_start (head_of b) i)) _ _ e) (record_kept i)

  pub follower_broken : (i : ℕ) → record_number b (head_of b) i ≡ 27 → get_or (follower_rules b i) (first_held (follower_rules b i)) false ≡ true
  unfolding record_number record_rows followers_bad
  follower_broken i e = broken (follower_rules b i) (between (segment_bad (head_of b) i (segment_on b i) || record_padding b (record_start (head_of b) i)) (any_of (follower_rules b i)) _ e) (λ q. q)
