-- An accepted file, written from the list that was read, is its own bytes; a list that is written reads back to itself.
use Prim.Native.Nat.{ℕ, ◌+◌, ◌*◌, ◌/◌, ◌%◌, ◌≤◌, ◌<◌}
use mathlib.Core.Path.{◌≡◌, refl, sym, ap, ap₂, ◌∙◌}
use mathlib.Core.Bool.{false, ◌&&◌, not}
use mathlib.Core.List.{List, [], ◌∷◌, ◌++◌, append-nil}
use native.Mathlib.Nat.{add-zero, mul-div_cancel, mod-add-div', div-le_of_le-mul}
use native.Mathlib.Omega.{arith}
use lib.Dec.{ltb, eqb}
use lib.ListN.{length, get_or, take, drop, length-append, length-drop, take-append-drop}
use lib.Seq.{drop-drop, drop_at, take_all}
use borrow.Author.Tests.{ltb-false, le-ltb, eqb-true, eq-eqb, not-false}
use Rattle.laws.specs.First.{any_of, or_from}
use Rattle.laws.specs.Lists.{part, parts}
use Rattle.laws.specs.BigEndian.{Bytes, byte_at, u16_at, u32_at, u32_bytes}
use Rattle.laws.proofs.First.{row_passed, row_later, row_skipped}
use Rattle.laws.proofs.Tests.{any_of_false, inside, inside_low, inside_high, and_left, and_right}
use Rattle.laws.proofs.Lists.{listed, part_listed, parts_of, parts_at, length-parts, get_or-table, table_of}
use Rattle.laws.proofs.BigEndian.{low_byte, two_high, two_low, two_back, u32_written, u32_back, part_u32, length_u32}
use Rattle.survey_file.specs.File.{has_mark, size_on, rows_on, arrival_on, arrivals_on, survey_number}
use Rattle.survey_file.specs.Written.{head_bytes, survey_of, survey_size, write_number, SurveyWritesBack, SurveyReadsBack}
use Rattle.survey_file.proofs.Accepted.{AcceptedSurvey, survey_accepted, length-arrivals}

pub length-head : (n rows : ℕ) → length (head_bytes n rows) ≡ 8
unfolding head_bytes
length-head n rows = refl

-- the bytes of arrival k
abbrev pub arrival_bytes : List ℕ → ℕ → List ℕ
arrival_bytes list k = u32_bytes (get_or list k 0)

-- ---- written of what was read

module _ {n : ℕ} {b : List ℕ} (bs : Bytes b) (a : AcceptedSurvey n b) where
  head_bytes_lem : head_bytes n (rows_on b) ≡ take 8 b
  unfolding head_bytes listed
  head_bytes_lem =
      let m01 = and_left (eqb (byte_at b 0) 70 && eqb (byte_at b 1) 87) (eqb (byte_at b 2) 68) a.marked in
      let e0 = sym (eqb-true (byte_at b 0) 70 (and_left _ (eqb (byte_at b 1) 87) m01)) in
      let e1 = sym (eqb-true (byte_at b 1) 87 (and_right (eqb (byte_at b 0) 70) _ m01)) in
      let e2 = sym (eqb-true (byte_at b 2) 68 (and_right (eqb (byte_at b 0) 70 && eqb (byte_at b 1) 87) _ a.marked)) in
      let b4 = bs 4 in
      let e3 : 0 ≡ get_or b 3 0 = omega (arith, a.version) in
      let e4 : 1 ≡ get_or b 4 0 = omega (arith, a.version) in
      let e5 = low_byte n (omega (arith, a.size_high)) ∙ sym a.size_is in
      let e6 = two_high _ _ (bs 6) (bs 7) in
      let e7 = two_low _ _ (bs 6) (bs 7) in
      let e : head_bytes n (rows_on b) ≡ listed 0 b 0 0 8 = cc in
      e ∙ sym (part_listed 0 b 0 8 a.long)

  count : length (arrivals_on b) ≡ rows_on b * n
  count = length-arrivals b ∙ ap (λ (m : ℕ). rows_on b * m) a.size_is

  rows_counted : length (arrivals_on b) / n ≡ rows_on b
  rows_counted = ap (λ (m : ℕ). m / n) count ∙ mul-div_cancel (rows_on b) a.size_low

  arrivals_bytes : parts (arrival_bytes (arrivals_on b)) (length (arrivals_on b)) ≡ drop 8 b
  unfolding arrivals_on
  arrivals_bytes =
      parts_of (arrival_bytes (arrivals_on b)) 4 (drop 8 b) (length (arrivals_on b))
      (λ k l.
      ap u32_bytes (get_or-table (arrival_on b) (rows_on b * size_on b) k 0 (omega (arith, length-arrivals b, l)))
      ∙ u32_written b bs (8 + 4 * k) (omega (arith, count, l, a.length_is))
      ∙ ap (take 4) (sym (drop-drop (4 * k) 8 b)))
      ∙ take_all (4 * length (arrivals_on b)) (drop 8 b) (simp length-drop (omega (arith, count, a.length_is)))

  file_again : survey_of n (arrivals_on b) ≡ b
  unfolding survey_of
  file_again = ap₂ (λ (x y : List ℕ). x ++ y) (ap (head_bytes n) rows_counted ∙ head_bytes_lem) arrivals_bytes ∙ take-append-drop 8 b

pub survey_writes_back : SurveyWritesBack
survey_writes_back n b bs z = file_again bs (survey_accepted n b z)

-- ---- read of what was written

-- what acceptance says to the writer
pub record WholeRows (n : ℕ) (list : List ℕ) : Type 0 where
  pub size_low : 1 ≤ n
  pub size_high : n ≤ 40
  pub whole : length list / n * n ≡ length list
  pub rows_high : length list / n ≤ 20000

pub whole_rows : (n : ℕ) (list out : List ℕ) → write_number n list out ≡ 0 → WholeRows n list
unfolding write_number
whole_rows n list out e =
    let t = any_of_false _ (row_passed _ _ _ e) in
    let none : length list % n ≡ 0 = eqb-true _ _ (not-false _ (t 1)) in
    record {
      size_low = inside_low 1 n 40 (t 0);
      size_high = inside_high 1 n 40 (t 0);
      whole = omega (arith, none, mod-add-div' (length list) n);
      rows_high = let few : length list ≤ 20000 * n = ltb-false _ _ (t 2) in div-le_of_le-mul n (omega (arith, few));
    }

pub write_room : (n : ℕ) (list out : List ℕ) → write_number n list out ≡ 0 → survey_size list ≤ length out
unfolding write_number
write_room n list out e = ltb-false _ _ (row_passed _ _ _ (row_later _ _ _ e))

module _ {n : ℕ} {list : List ℕ} (w : WholeRows n list) where
  abbrev b : List ℕ
  b = survey_of n list

  size_back : size_on b ≡ n
  unfolding survey_of head_bytes
  size_back = low_byte n (omega (arith, w.size_high))

  rows_back : rows_on b ≡ length list / n
  unfolding survey_of head_bytes
  rows_back = two_back (length list / n) (omega (arith, w.rows_high))

  count_back : rows_on b * size_on b ≡ length list
  count_back = ap₂ (λ (x y : ℕ). x * y) rows_back size_back ∙ w.whole

  length_survey : length b ≡ survey_size list
  unfolding survey_of
  length_survey = simp (length-append, length-head) (omega (arith, length-parts 4 (arrival_bytes list) (length list) (λ k l. length_u32 _)))

  -- what is the same in every head
  marked : not (has_mark b) ≡ false
  unfolding survey_of head_bytes
  marked = refl

  version : not (eqb (u16_at b 3) 1) ≡ false
  unfolding survey_of head_bytes
  version = refl

  accepted : survey_number n b ≡ 0
  unfolding survey_number any_of or_from
  accepted =
      let long : ltb (length b) 8 ≡ false = le-ltb (length b) 8 (omega (arith, length_survey)) in
      let size : not (eqb (size_on b) n) ≡ false = ap not (eq-eqb _ _ size_back) in
      let rows : ltb 20000 (rows_on b) ≡ false = le-ltb 20000 (rows_on b) (omega (arith, rows_back, w.rows_high)) in
      let whole : not (eqb (length b) (8 + 4 * (rows_on b * size_on b))) ≡ false = ap not (eq-eqb (length b) _ (omega (arith, length_survey, count_back))) in
      row_skipped _ _ _ (λ j. any_of (long j ∷ marked j ∷ version j ∷ []))
      ∙ row_skipped _ _ _ (λ j. any_of (inside 1 n 40 w.size_low w.size_high j ∷ size j ∷ rows j ∷ whole j ∷ []))

  -- the four bytes of arrival k, in their place
  arrival_at : (k : ℕ) → k < length list → part (8 + 4 * k) 4 b ≡ arrival_bytes list k
  unfolding survey_of
  arrival_at k l =
      let body = parts (arrival_bytes list) (length list) in
      ap (take 4) (sym (drop-drop (4 * k) 8 b) ∙ ap (drop (4 * k)) (drop_at (head_bytes n (length list / n)) body 8 (length-head n _) ∙ sym (append-nil body)))
      ∙ parts_at 4 (arrival_bytes list) (length list) k [] (λ i h. length_u32 _) l

  list_again : ((k : ℕ) → get_or list k 0 < 4294967296) → arrivals_on b ≡ list
  unfolding arrivals_on
  list_again small =
      table_of (arrival_on b) list (rows_on b * size_on b) 0 (sym count_back)
      (λ k l.
      sym (part_u32 b (8 + 4 * k) 4 0 (omega arith) ∙ ap (u32_at b) (add-zero (8 + 4 * k)))
      ∙ ap (λ (four : List ℕ). u32_at four 0) (arrival_at k (omega (arith, l, count_back)))
      ∙ u32_back (get_or list k 0) (small k))

pub survey_reads_back : SurveyReadsBack
survey_reads_back n list out small z = let w = whole_rows n list out z in (accepted w, list_again w small)
