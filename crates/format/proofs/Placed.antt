-- The place of a refusal is right.
use Prim.Native.Nat.{ℕ, suc, ◌+◌, ◌*◌, ◌/◌, ◌%◌, ◌<◌, ◌≤◌}
use mathlib.Core.Bool.{Bool, true, false}
use mathlib.Core.List.{List}
use mathlib.Core.Path.{◌≡◌, refl, sym, ap, ◌∙◌}
use native.Mathlib.Omega.{arith}
use mathlib.Core.Logic.{⊎_elim}
use native.Mathlib.Nat.{suc-ne-zero, eq-or-lt_of_le}
use native.Mathlib.Numerals.{add-one}
use lib.Dec.{ltb}
use borrow.Author.Tests.{ne_eqb, lt-ltb, ltb-true, ltb-false}
use Rattle.laws.specs.First.{row, first_of, first_held}
use Rattle.laws.specs.Lists.{table}
use Rattle.laws.proofs.First.{row_applies, row_skipped, first_of_all, first_of_found}
use Rattle.laws.proofs.Search.{first_in_table, where_found, where_below}
use Rattle.format.specs.Network.{rising, curve_number, origin_number}
use Rattle.format.specs.File.{head_of, entry_on, segment_on, curve_in, curves_number, record_number, records_number, origins_number, file_number}
use Rattle.format.proofs.File.{head-accepted}
use Rattle.format.specs.Place.{head_rules, entry_bad, bad_entry, bad_record, bad_origin, record_rules, follower_rules, place_of, Place}
use Rattle.format.proofs.PlaceParts.{part_of, rule_of, head_offset, offset_of, place-parts}
use Rattle.format.specs.Placed.{Placed, mark_rules}
use Rattle.format.proofs.Numbers.{number-most, file-parts}
use Rattle.format.proofs.Broken.{mark_broken, head_broken, record_broken, follower_broken}

-- ---- the parts of a place, by the number

module _ (b : List ℕ) where
  number_same : (place_of b).number ≡ file_number b
  number_same = ap (λ (p : Place). p.number) (place-parts b)

  offset_two : file_number b ≡ 2 → (place_of b).offset ≡ first_held (mark_rules b)
  unfolding offset_of head_offset row
  offset_two e = ap (λ (p : Place). p.offset) (place-parts b) ∙ rw e refl

  rule_four : file_number b ≡ 4 → (place_of b).rule ≡ first_held (head_rules b)
  unfolding rule_of row
  rule_four e = ap (λ (p : Place). p.rule) (place-parts b) ∙ rw e refl

  part_six : file_number b ≡ 6 → (place_of b).part ≡ bad_entry b / 201
  unfolding part_of row
  part_six e = ap (λ (p : Place). p.part) (place-parts b) ∙ rw e refl

  rule_six : file_number b ≡ 6 → (place_of b).rule ≡ bad_entry b % 201
  unfolding rule_of row
  rule_six e = ap (λ (p : Place). p.rule) (place-parts b) ∙ rw e refl

  part_record : 6 < file_number b → file_number b < 28 → (place_of b).part ≡ bad_record b
  unfolding part_of
  part_record l h =
      ap (λ (p : Place). p.part) (place-parts b)
      ∙ row_skipped _ _ _ (ne_eqb (file_number b) 6 (λ e. omega (arith, e, l)))
      ∙ row_skipped _ _ _ (ne_eqb (file_number b) 28 (λ e. omega (arith, e, h)))
      ∙ row_applies _ _ _ (lt-ltb _ _ l)

  part_origin : file_number b ≡ 28 → (place_of b).part ≡ bad_origin b
  unfolding part_of row
  part_origin e = ap (λ (p : Place). p.part) (place-parts b) ∙ rw e refl

  rule_seven : file_number b ≡ 7 → (place_of b).rule ≡ first_held (record_rules b (bad_record b))
  unfolding part_of rule_of row
  rule_seven e = ap (λ (p : Place). p.rule) (place-parts b) ∙ rw e refl

  rule_follower : file_number b ≡ 27 → (place_of b).rule ≡ first_held (follower_rules b (bad_record b))
  unfolding part_of rule_of row
  rule_follower e = ap (λ (p : Place). p.rule) (place-parts b) ∙ rw e refl

-- ---- row 6: where no entry is refused, no curve is

curve_kept : (e : ℕ → ℕ) → ((j : ℕ) → j < 201 → entry_bad e j ≡ false) → curve_number e ≡ 0
unfolding curve_number rising entry_bad
curve_kept e each =
    row_skipped _ _ _ (each 0 (omega arith))
    ∙ first_of_all (rising e) 200 (λ j l. row_skipped _ _ _ (ap (λ (k : ℕ). ltb (e j) (e k)) (add-one j) ∙ each (suc j) (omega (arith, l))))

module _ (b : List ℕ) where
  abbrev refused_at : ℕ → Bool
  refused_at m = entry_bad (entry_on b (m / 201)) (m % 201)

  curves_kept : ((m : ℕ) → m < 201 * (head_of b).curves → refused_at m ≡ false) → curves_number b ≡ 0
  unfolding curves_number
  curves_kept each = first_of_all (curve_in b) _ (λ k l. curve_kept (entry_on b k) (λ j h. at k j l h))
    where
      at : (k j : ℕ) → k < (head_of b).curves → j < 201 → entry_bad (entry_on b k) j ≡ false
      at k j l h =
          let curve : (201 * k + j) / 201 ≡ k = omega (arith, h) in
          let entry : (201 * k + j) % 201 ≡ j = omega (arith, h) in
          rw (curve, entry) at (each (201 * k + j) (omega (arith, l, h)))

  -- the entry that is found stands in one of the file's curves, and is refused
  entry_found : file_number b ≡ 6 → (bad_entry b < 201 * (head_of b).curves) × (refused_at (bad_entry b) ≡ true)
  unfolding bad_entry
  entry_found e =
      let few : (head_of b).curves ≤ 8 = (head-accepted b ((file-parts b).after (omega (arith, e)))).sized.within.curves_high in
      rw (first_in_table refused_at 1608) (where_below refused_at (201 * (head_of b).curves) 1608 (omega (arith, few)) (λ each. suc-ne-zero 5 (sym ((file-parts b).curves e) ∙ curves_kept each)))

-- ---- rows 7, 27 and 8, and row 28: f i is the number that refuses segment i, of n

module _ (f : ℕ → ℕ) (n : ℕ) (few : n ≤ 40) (some : first_of f n ≡ 0 → ⊥) where
  abbrev refused : ℕ → Bool
  refused i = ltb 0 (f i)

  abbrev bad : ℕ
  bad = first_held (table refused 40)

  passed : (i : ℕ) → refused i ≡ false → f i ≡ 0
  passed i e = omega (arith, ltb-false 0 (f i) e)

  -- the first that is found is one of them
  bad_below : (bad < n) × (refused bad ≡ true)
  bad_below = rw (first_in_table refused 40) (where_below refused n 40 few (λ each. some (first_of_all f n (λ i l. passed i (each i l)))))

  -- and it is refused by the number of them all
  bad_found : f bad ≡ first_of f n
  bad_found =
      let before = (where_found refused 40).none in
      let none = first_of_all f bad (λ i h. passed i (before i (omega arith) (rw (first_in_table refused 40) at h))) in
      let here : f bad ≡ 0 → ⊥ = λ e. omega (arith, e, ltb-true 0 (f bad) bad_below.1) in
      first_of_found f n bad bad_below.0 none refl here

module _ (b : List ℕ) (later : 6 < file_number b) where
  few_segments : (head_of b).size ≤ 40
  few_segments = (head-accepted b ((file-parts b).after (omega (arith, later)))).sized.within.size_high

  module _ (h : file_number b < 28) where
    records_refuse : first_of (record_number b (head_of b)) (head_of b).size ≡ file_number b
    unfolding records_number
    records_refuse = (file-parts b).records later h

    record_some : first_of (record_number b (head_of b)) (head_of b).size ≡ 0 → ⊥
    record_some z = omega (arith, later, sym records_refuse ∙ z)

    record_below : bad_record b < (head_of b).size
    unfolding bad_record
    record_below = (bad_below (record_number b (head_of b)) (head_of b).size few_segments record_some).0

    record_found : record_number b (head_of b) (bad_record b) ≡ file_number b
    unfolding bad_record
    record_found = bad_found (record_number b (head_of b)) (head_of b).size few_segments record_some ∙ records_refuse

module _ (b : List ℕ) (e : file_number b ≡ 28) where
  later : 6 < file_number b
  later = omega (arith, e)

  origins_refuse : first_of (origin_number (segment_on b) (head_of b).size) (head_of b).size ≡ 28
  unfolding origins_number
  origins_refuse = (file-parts b).origins e

  origin_some : first_of (origin_number (segment_on b) (head_of b).size) (head_of b).size ≡ 0 → ⊥
  origin_some z = omega (arith, sym origins_refuse ∙ z)

  origin_below : bad_origin b < (head_of b).size
  unfolding bad_origin
  origin_below = (bad_below (origin_number (segment_on b) (head_of b).size) (head_of b).size (few_segments b later) origin_some).0

  origin_found : origin_number (segment_on b) (head_of b).size (bad_origin b) ≡ 28
  unfolding bad_origin
  origin_found = bad_found (origin_number (segment_on b) (head_of b).size) (head_of b).size (few_segments b later) origin_some ∙ origins_refuse

-- ---- the statement

segment_below : (b : List ℕ) → 6 < file_number b → (place_of b).part < (head_of b).size
segment_below b l = ⊎_elim (λ e. rw (part_origin b e) (origin_below b e)) (λ h. rw (part_record b l h) (record_below b l h)) (eq-or-lt_of_le (number-most b))

pub placed : (b : List ℕ) → Placed b
placed b =
    record {
      number = number_same b;
      mark = λ e. rw (offset_two b e) (mark_broken b ((file-parts b).head (omega (arith, e)) (λ z. omega (arith, e, z)) ∙ e));
      head = λ e. rw (rule_four b e) (head_broken b ((file-parts b).head (omega (arith, e)) (λ z. omega (arith, e, z)) ∙ e));
      curve = λ e. rw (part_six b e) (omega (arith, (entry_found b e).0));
      entry = λ e. rw (part_six b e, rule_six b e) (entry_found b e).1;
      segment = λ l. segment_below b l;
      refused = λ l h. rw (part_record b l h) (record_found b l h);
      field =
          λ e. let l : 6 < file_number b = omega (arith, e) in
          let h : file_number b < 28 = omega (arith, e) in
          rw (part_record b l h, rule_seven b e) (record_broken b _ (record_found b l h ∙ e));
      follower =
          λ e. let l : 6 < file_number b = omega (arith, e) in
          let h : file_number b < 28 = omega (arith, e) in
          rw (part_record b l h, rule_follower b e) (follower_broken b _ (record_found b l h ∙ e));
      origin = λ e. rw (part_origin b e) (origin_found b e);
    }
