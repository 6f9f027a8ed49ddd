-- The place of a refusal part by part, as the code finds it.
use Prim.Native.Nat.{ℕ, ◌+◌, ◌*◌, ◌/◌, ◌%◌, min}
use mathlib.Core.Bool.{Bool, true, false, true≢false, ◌||◌}
use mathlib.Core.List.{List}
use mathlib.Core.Path.{◌≡◌, refl, sym, ap, ◌∙◌}
use native.Mathlib.Nat.{add-zero, pos_of_ne-zero}
use lib.Dec.{ltb, eqb}
use lib.ListN.{length, get_or}
use borrow.Author.Tests.{lt-ltb}
use Rattle.laws.specs.First.{row, any_of, first_held}
use Rattle.laws.proofs.First.{row_skipped, row_passed, row_later}
use Rattle.laws.proofs.Tests.{or_left, or_right}
use Rattle.format.specs.Network.{too_fast, followers_bad, record_rows}
use Rattle.format.specs.File.{head_of, file_size, entry_on, segment_on, record_start, record_number, file_number}
use Rattle.format.specs.Place.{head_rules, head_fields, bad_entry, record_rules, record_fields, follower_rules, follower_fields, bad_record, bad_origin, place, place_of, Place}
use Rattle.format.specs.Placed.{mark_rules}
use Rattle.format.proofs.Numbers.{number_is}
use Rattle.format.proofs.Broken.{record_kept, record_passed}

-- ---- by the number that refuses

-- 6: the curve; 28: the segment; 7, 8 and 27: the record; each counted from 0
unfoldable pub part_of : List ℕ → ℕ → ℕ
part_of b number = row (eqb number 6) (bad_entry b / 201) (row (eqb number 28) (bad_origin b) (row (ltb 6 number) (bad_record b) 0))

-- 4, 7 and 27: the first rule that is broken; 6: the entry
unfoldable pub rule_of : List ℕ → ℕ → ℕ → ℕ
rule_of b number part =
    row (eqb number 4) (first_held (head_rules b))
    (row (eqb number 6) (bad_entry b % 201)
    (row (eqb number 7) (first_held (record_rules b part))
    (row (eqb number 27) (first_held (follower_rules b part)) 0)))

-- the byte, of rows 1 to 5
unfoldable pub head_offset : List ℕ → ℕ → ℕ → ℕ
head_offset b number rule =
    row (eqb number 1) (length b)
    (row (eqb number 2) (first_held (mark_rules b))
    (row (eqb number 3) 3
    (row (eqb number 4) (get_or head_fields rule 0)
    (row (eqb number 5) (min (length b) (file_size (head_of b))) 0))))

-- within its record, of rows 7, 8, 27 and 28
unfoldable pub field_of : List ℕ → ℕ → ℕ → ℕ → ℕ
field_of b number part rule =
    row (eqb number 7) (get_or record_fields rule 0)
    (row (eqb number 27) (get_or (follower_fields (head_of b) part (segment_on b part).following) rule 0)
    (row (eqb number 28) 6 0))

-- and of all rows
unfoldable pub offset_of : List ℕ → ℕ → ℕ → ℕ → ℕ
offset_of b number part rule =
    row (eqb number 6) (16 + 4 * bad_entry b)
    (row (ltb 6 number) (record_start (head_of b) part + field_of b number part rule)
    (head_offset b number rule))

abbrev pub place_by : List ℕ → ℕ → Place
place_by b number = let part = part_of b number in let rule = rule_of b number part in place number part rule (offset_of b number part rule)

pub place-parts : (b : List ℕ) → place_of b ≡ place_by b (file_number b)
unfolding place_of part_of rule_of head_offset field_of offset_of row
place-parts b =
    number_is (λ n. file_number b ≡ n → place_of b ≡ place_by b n) b
    (λ e. rw e refl) (λ e. rw e refl) (λ e. rw e refl) (λ e. rw e refl) (λ e. rw e refl) (λ e. rw e refl) (λ e. rw e refl)
    (λ e. rw e refl) (λ e. rw (e, add-zero) refl) (λ e. rw e refl) (λ e. rw e refl)
    refl

-- ---- rows 7, 27 and 8 of record i

abbrev pub too_short : List ℕ → ℕ → Bool
too_short b i = let s = segment_on b i in too_fast (head_of b) (entry_on b s.curve 0) s

module _ (b : List ℕ) (i : ℕ) where
  abbrev pub record_bad : Bool
  record_bad = any_of (record_rules b i) || (any_of (follower_rules b i) || too_short b i)

  passed : record_bad ≡ false → record_number b (head_of b) i ≡ 0
  unfolding record_number record_rows followers_bad
  passed e =
      let later = or_right (any_of (record_rules b i)) _ e in
      row_skipped _ _ _ (record_kept b i (or_left (any_of (record_rules b i)) _ e))
      ∙ row_skipped _ _ _ (or_left (any_of (follower_rules b i)) _ later)
      ∙ row_skipped _ _ _ (or_right (any_of (follower_rules b i)) _ later)

  refuses : record_bad ≡ true → record_number b (head_of b) i ≡ 0 → ⊥
  unfolding record_number record_rows followers_bad
  refuses e z =
      let rules : any_of (record_rules b i) ≡ false = record_passed b i (row_passed _ _ _ z) in
      let followers : any_of (follower_rules b i) ≡ false = row_passed _ _ _ (row_later _ _ _ z) in
      let short : too_short b i ≡ false = row_passed _ _ _ (row_later _ _ _ (row_later _ _ _ z)) in
      true≢false (sym e ∙ rw (rules, followers, short) refl)

  pub record_refused : ltb 0 (record_number b (head_of b) i) ≡ record_bad
  record_refused = go record_bad refl
    where
      go : (t : Bool) → record_bad ≡ t → ltb 0 (record_number b (head_of b) i) ≡ t
      go true e = lt-ltb _ _ (pos_of_ne-zero (refuses e))
      go false e = ap (ltb 0) (passed e)
