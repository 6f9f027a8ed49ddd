-- What the rows say of the numbers that they do not refuse, and which of them refuses.
use Prim.Native.Nat.{ℕ, zero, suc, ◌+◌, ◌*◌, ◌≤◌, ◌<◌}
use mathlib.Core.Bool.{Bool, true, false, ◌&&◌, ◌||◌}
use mathlib.Core.Path.{◌≡◌, refl, sym, ap, ◌∙◌}
use mathlib.Core.Logic.{⊎_elim}
use native.Mathlib.Omega.{arith}
use native.Mathlib.Nat.{eq-or-lt_of_le, le_trans, le_of_eq}
use native.Mathlib.Numerals.{add-one}
use lib.Dec.{eqb, ltb}
use borrow.Author.Tests.{ltb-false, lt-ltb, leb-false, eqb-true, eqb-false, eq-eqb, not-false}
use Rattle.laws.specs.First.{outside, any_of, row, first, first_of}
use Rattle.laws.proofs.Tests.{or_left, or_right, and_left, and_right, and_false, any_of_false, inside_low, inside_high}
use Rattle.laws.proofs.First.{row_passed, row_later, row_applies, row_skipped, first_zero, first_some, first_zero_left, first_zero_right, first_of-zero}
use Rattle.format.specs.declared.Head.{Head}
use Rattle.format.specs.declared.Following.{Following}
use Rattle.format.specs.declared.Segment.{Segment}
use Rattle.format.specs.Network.{version_bad, chain, off_chain, head_bad, rising, curve_number, segment_tests, share_tests, segment_bad, same_following, not_higher, follower_tests, followers_bad, too_fast, record_rows, origin_number, segment_number, rows_number}
use Rattle.format.proofs.Accepted.{HeadWithin, CurveWithin, SegmentWithin, FollowingWithin, RowsWithin}

-- ---- rows 3 and 4

pub head_within : (h : Head) → version_bad h ≡ false → head_bad h ≡ false → HeadWithin h
unfolding head_bad
head_within h v e =
    let no = any_of_false _ e in
    record {
      version_low = inside_low 1 h.version 2 v;
      version_high = inside_high 1 h.version 2 v;
      step_low = inside_low 1 h.step 60 (no 0);
      step_high = inside_high 1 h.step 60 (no 0);
      size_low = inside_low 1 h.size 40 (no 1);
      size_high = inside_high 1 h.size 40 (no 1);
      curves_low = inside_low 1 h.curves 8 (no 2);
      curves_high = inside_high 1 h.curves 8 (no 2);
      tau_low = inside_low 1 h.tau 120 (no 3);
      tau_high = inside_high 1 h.tau 120 (no 3);
      nu_high = ltb-false _ _ (no 4);
      kappa_low = inside_low 1 h.kappa 200 (no 5);
      kappa_high = inside_high 1 h.kappa 200 (no 5);
      delta_high = ltb-false _ _ (no 6);
    }

-- ---- row 6, of the entries e

module _ (e : ℕ → ℕ) where
  pub curve_starts_in : outside 1000 (e 0) 200000 ≡ false → curve_number e ≡ first_of (rising e) 200
  unfolding curve_number
  curve_starts_in h = row_skipped _ _ _ h

  pub curve_within : curve_number e ≡ 0 → CurveWithin e
  unfolding curve_number rising
  curve_within z =
      let no = row_passed _ _ _ z in
      record {
        start_low = inside_low 1000 (e 0) 200000 no;
        start_high = inside_high 1000 (e 0) 200000 no;
        falls = λ j l. ltb-false _ _ (row_passed _ _ _ (first_of-zero (rising e) 200 (row_later _ _ _ z) j l));
      }

  -- none is above one before it
  pub entries_fall : CurveWithin e → (i j : ℕ) → i ≤ j → j ≤ 200 → e j ≤ e i
  entries_fall w i zero l m = let z : i ≡ 0 = omega (arith, l) in le_of_eq (ap e (sym z))
  entries_fall w i (suc j) l m =
      ⊎_elim
      (λ p. le_of_eq (ap e (sym p)))
      (λ k. le_trans (rw (sym (add-one j)) (w.falls j (omega arith))) (entries_fall w i j (omega (arith, k)) (omega arith)))
      (eq-or-lt_of_le l)

  -- and so none is above 200,000
  pub entry_high : CurveWithin e → (j : ℕ) → j ≤ 200 → e j ≤ 200000
  entry_high w j l = le_trans (entries_fall w 0 j (omega arith) l) w.start_high

-- ---- row 7

pub segment_within : (h : Head) (i : ℕ) (s : Segment) → segment_bad h i s ≡ false → SegmentWithin h i s
unfolding segment_bad
segment_within h i s e =
    let no = any_of_false (segment_tests h i s) (or_left _ _ e) in
    let share = any_of_false (share_tests s) (or_right (any_of (segment_tests h i s)) _ e) in
    let one = ltb-false 1 s.origin (no 6) in
    let bare : s.origin ≡ 0 → s.most ≡ 0 = λ q. omega (arith, ltb-false 0 s.most (and_false (eqb s.origin 0) _ (no 10) (eq-eqb _ _ q))) in
    let most : s.origin ≡ 1 → outside 1 s.most 300000 ≡ false = λ q. and_false (eqb s.origin 1) _ (no 11) (eq-eqb _ _ q) in
    let high : s.origin ≡ 1 → s.most ≤ 300000 = λ q. inside_high 1 s.most 300000 (most q) in
    record {
      metres_low = inside_low 100 s.metres 2000 (no 0);
      metres_high = inside_high 100 s.metres 2000 (no 0);
      lanes_low = inside_low 1 s.lanes 8 (no 1);
      lanes_high = inside_high 1 s.lanes 8 (no 1);
      curve_high = leb-false _ _ (no 2);
      critical_low = ltb-false _ _ (no 3);
      critical_high = leb-false _ _ (no 4);
      jam_high = inside_high 2 s.jam 200 (no 5);
      origin_high = one;
      origin_first = λ q. omega (arith, eqb-false s.origin 0 (and_false (eqb i 0) _ (no 7) (eq-eqb i 0 q)));
      exit_high = ltb-false _ _ (no 8);
      exit_last = λ q r. omega (arith, ltb-false 0 s.exit (and_false (eqb s.following.first 0 && eqb s.following.second 0) _ (no 9) (rw (eq-eqb _ _ q, eq-eqb _ _ r) refl)));
      most_none = bare;
      most_low = λ q. inside_low 1 s.most 300000 (most q);
      most_high = ⊎_elim high (λ lt. omega (arith, bare (omega arith))) (eq-or-lt_of_le one);
      share_high = ltb-false _ _ (share 0);
      share_alone = λ q. eqb-true _ _ (not-false _ (and_false (eqb s.following.second 0) _ (share 1) (eq-eqb _ _ q)));
    }

-- ---- row 27

not_lower : (i k : ℕ) → not_higher i k ≡ false → 0 < k → i + 1 < k
not_lower i k e l = leb-false k (i + 1) (and_false (ltb 0 k) _ e (lt-ltb 0 k l))

pub following_within : (h : Head) (i : ℕ) (f : Following) → followers_bad h i f ≡ false → FollowingWithin h.size i f
unfolding followers_bad
following_within h i f e =
    let no = any_of_false (follower_tests h i f) e in
    record {
      first_high = ltb-false h.size f.first (or_left _ _ (no 1));
      second_high = ltb-false h.size f.second (or_right (ltb h.size f.first) _ (no 1));
      first_higher = not_lower i f.first (or_left _ _ (no 0));
      second_higher = not_lower i f.second (or_right (not_higher i f.first) _ (no 0));
      second_later =
          λ l. ⊎_elim (λ z. absurd (omega (arith, ltb-false 0 f.second (and_false (eqb f.first 0) _ (no 2) (eq-eqb f.first 0 (sym z)))))) (λ p. p) (eq-or-lt_of_le (omega arith));
      apart = λ l q. eqb-false f.first f.second (and_false (ltb 0 f.second) _ (no 3) (lt-ltb 0 f.second l)) q;
    }

-- ---- rows 7, 27 and 8: what the code returns, where it found s and the first entry F of its curve, and other is row 7's test of what is no field of s

-- rows 7 and 27, of what follows the segment
unfoldable pub following_row : Head → ℕ → Segment → ℕ
following_row h i s = row (any_of (share_tests s)) 7 (row (followers_bad h i s.following) 27 0)

module _ (other : Bool) (h : Head) (i F : ℕ) (s : Segment) where
  abbrev pub fields_bad : Bool
  fields_bad = any_of (segment_tests h i s) || other

  in_parts : record_rows (segment_bad h i s || other) h i F s ≡ row fields_bad 7 (first (following_row h i s) (row (too_fast h F s) 8 0))
  unfolding record_rows segment_bad following_row
  in_parts = go (any_of (segment_tests h i s)) (any_of (share_tests s)) other (followers_bad h i s.following) (row (too_fast h F s) 8 0)
    where
      go : (a b z c : Bool) (k : ℕ) → row ((a || b) || z) 7 (row c 27 k) ≡ row (a || z) 7 (first (row b 7 (row c 27 0)) k)
      go true b z c k = unfold row in refl
      go false true true c k = unfold row in refl
      go false true false c k = unfold row first in refl
      go false false z true k = unfold row first in refl
      go false false z false k = unfold row first in refl

  pub field-refused : fields_bad ≡ true → 7 ≡ record_rows (segment_bad h i s || other) h i F s
  field-refused e = sym (in_parts ∙ row_applies _ _ _ e)

  module _ (e : fields_bad ≡ false) where
    pub following_refused : {r : ℕ} → r ≡ following_row h i s → (r ≡ 0 → ⊥) → r ≡ record_rows (segment_bad h i s || other) h i F s
    following_refused is some = is ∙ sym (in_parts ∙ row_skipped _ _ _ e ∙ first_some _ _ (λ z. some (is ∙ z)))

    module _ (f : following_row h i s ≡ 0) where
      -- the fields are in range
      pub fields_within : SegmentWithin h i s
      unfolding segment_bad following_row
      fields_within = segment_within h i s (λ j. or_left (any_of (segment_tests h i s)) other e j || row_passed _ _ _ f j)

      pub speed_refused : too_fast h F s ≡ true → 8 ≡ record_rows (segment_bad h i s || other) h i F s
      speed_refused g = sym (in_parts ∙ row_skipped _ _ _ e ∙ first_zero _ _ f ∙ row_applies _ _ _ g)

      pub speed_passed : too_fast h F s ≡ false → 0 ≡ record_rows (segment_bad h i s || other) h i F s
      speed_passed g = sym (in_parts ∙ row_skipped _ _ _ e ∙ first_zero _ _ f ∙ row_skipped _ _ _ g)

-- the same in first, second and share is the same
same_following_lem : (f g : Following) → same_following f g ≡ true → f ≡ g
same_following_lem f g e =
    let both = and_left (eqb f.first g.first && eqb f.second g.second) (eqb f.share g.share) e in
    let first = eqb-true _ _ (and_left (eqb f.first g.first) (eqb f.second g.second) both) in
    let second = eqb-true _ _ (and_right (eqb f.first g.first) (eqb f.second g.second) both) in
    let share = eqb-true _ _ (and_right (eqb f.first g.first && eqb f.second g.second) (eqb f.share g.share) e) in
    λ j. record { first = first j; second = second j; share = share j }

-- in version 1 a segment that row 7 accepts is followed as in the chain
pub on_chain_following : (h : Head) (i : ℕ) (s : Segment) → off_chain h i s ≡ false → h.version ≡ 1 → s.following ≡ chain h.size i
on_chain_following h i s e q = same_following_lem _ _ (not-false _ (and_false (eqb h.version 1) _ e (eq-eqb _ _ q)))

-- ---- all rows, of a network that is given by its head, entries and segments

-- where head and curves are accepted, the rows after them say it
module _ (h : Head) (entry : ℕ → ℕ → ℕ) (segment : ℕ → Segment) (v : version_bad h ≡ false) (e : head_bad h ≡ false) where
  pub rows_rest :
      first_of (λ k. curve_number (entry k)) h.curves ≡ 0
      → rows_number h entry segment ≡ first (first_of (segment_number h entry segment) h.size) (first_of (origin_number segment h.size) h.size)
  unfolding rows_number
  rows_rest z = row_skipped _ _ _ v ∙ row_skipped _ _ _ e ∙ first_zero _ _ z

-- what acceptance says of a segment
module _ (h : Head) (entry : ℕ → ℕ → ℕ) (segment : ℕ → Segment) (i : ℕ) (z : segment_number h entry segment i ≡ 0) where
  bad_passed : (segment_bad h i (segment i) || off_chain h i (segment i)) ≡ false
  unfolding segment_number record_rows
  bad_passed = row_passed _ _ _ z

  pub each_passed : SegmentWithin h i (segment i)
  each_passed = segment_within h i (segment i) (or_left _ _ bad_passed)

  pub chain_passed : h.version ≡ 1 → (segment i).following ≡ chain h.size i
  chain_passed = on_chain_following h i (segment i) (or_right (segment_bad h i (segment i)) _ bad_passed)

  pub onward_passed : FollowingWithin h.size i (segment i).following
  unfolding segment_number record_rows
  onward_passed = following_within h i (segment i).following (row_passed _ _ _ (row_later _ _ _ z))

  pub reach_passed : entry (segment i).curve 0 * h.step ≤ 3600 * (segment i).metres
  unfolding segment_number record_rows
  reach_passed = ltb-false _ _ (row_passed _ _ _ (row_later _ _ _ (row_later _ _ _ z)))

-- what acceptance says
module _ (h : Head) (entry : ℕ → ℕ → ℕ) (segment : ℕ → Segment) (z : rows_number h entry segment ≡ 0) where
  pub version_passed : version_bad h ≡ false
  unfolding rows_number
  version_passed = row_passed _ _ _ z

  pub head_passed : head_bad h ≡ false
  unfolding rows_number
  head_passed = row_passed _ _ _ (row_later _ _ _ z)

  after-head : first (first_of (λ k. curve_number (entry k)) h.curves) (first (first_of (segment_number h entry segment) h.size) (first_of (origin_number segment h.size) h.size)) ≡ 0
  unfolding rows_number
  after-head = row_later _ _ _ (row_later _ _ _ z)

  pub curves_passed : (k : ℕ) → k < h.curves → curve_number (entry k) ≡ 0
  curves_passed = first_of-zero (λ k. curve_number (entry k)) _ (first_zero_left _ _ after-head)

  after-curves : first (first_of (segment_number h entry segment) h.size) (first_of (origin_number segment h.size) h.size) ≡ 0
  after-curves = first_zero_right (first_of (λ k. curve_number (entry k)) h.curves) _ after-head

  pub segments_passed : (i : ℕ) → i < h.size → segment_number h entry segment i ≡ 0
  segments_passed = first_of-zero (segment_number h entry segment) _ (first_zero_left _ _ after-curves)

  pub origins_passed : (i : ℕ) → i < h.size → origin_number segment h.size i ≡ 0
  origins_passed = first_of-zero (origin_number segment h.size) _ (first_zero_right (first_of (segment_number h entry segment) h.size) _ after-curves)

  pub rows_within : RowsWithin h entry segment
  unfolding origin_number
  rows_within =
      record {
        head = head_within h version_passed head_passed;
        curve = λ k l. curve_within (entry k) (curves_passed k l);
        each = λ i l. each_passed h entry segment i (segments_passed i l);
        onward = λ i l. onward_passed h entry segment i (segments_passed i l);
        reach = λ i l. reach_passed h entry segment i (segments_passed i l);
        begins = λ i l q. not-false _ (and_false (eqb (segment i).origin 0) _ (row_passed _ _ _ (origins_passed i l)) (eq-eqb _ _ q));
        chained = λ i l. chain_passed h entry segment i (segments_passed i l);
      }
