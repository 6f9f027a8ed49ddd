-- What acceptance says of a survey file, and its rows one by one.
use Prim.Native.Nat.{ℕ, ◌+◌, ◌*◌, ◌≤◌, ◌<◌}
use mathlib.Core.Path.{◌≡◌, sym, ap, ap₂, ◌∙◌}
use mathlib.Core.Bool.{true}
use mathlib.Core.List.{List, [], ◌∷◌}
use native.Mathlib.Nat.{mul_comm, mul-le-mul_left}
use native.Mathlib.Numerals.{add-one}
use native.Mathlib.Omega.{arith}
use lib.ListN.{length, drop}
use lib.Seq.{drop-cons}
use borrow.Author.Tests.{ltb-false, eqb-true, not-false}
use Rattle.laws.specs.Lists.{table}
use Rattle.laws.specs.BigEndian.{u16_at}
use Rattle.laws.proofs.First.{row_passed, row_later}
use Rattle.laws.proofs.Tests.{any_of_false, inside_low, inside_high}
use Rattle.laws.proofs.Lists.{length-table, get_or-table, parts_ext, table_blocks}
use Rattle.survey_file.specs.File.{has_mark, size_on, rows_on, arrival_on, arrivals_on, row_on, rows_in, survey_number}
use Rattle.survey_file.specs.Read.{RowsAreRead}

pub record AcceptedSurvey (n : ℕ) (b : List ℕ) : Type 0 where
  pub long : 8 ≤ length b
  pub marked : has_mark b ≡ true
  pub version : u16_at b 3 ≡ 1
  pub size_low : 1 ≤ n
  pub size_high : n ≤ 40
  pub size_is : size_on b ≡ n
  pub rows_high : rows_on b ≤ 20000
  pub length_is : length b ≡ 8 + 4 * (rows_on b * n)

pub survey_accepted : (n : ℕ) (b : List ℕ) → survey_number n b ≡ 0 → AcceptedSurvey n b
unfolding survey_number
survey_accepted n b e =
    let head = any_of_false _ (row_passed _ _ _ e) in
    let body = any_of_false _ (row_passed _ _ _ (row_later _ _ _ e)) in
    let size = eqb-true _ _ (not-false _ (body 1)) in
    record {
      long = ltb-false _ _ (head 0);
      marked = not-false _ (head 1);
      version = eqb-true _ _ (not-false _ (head 2));
      size_low = inside_low 1 n 40 (body 0);
      size_high = inside_high 1 n 40 (body 0);
      size_is = size;
      rows_high = ltb-false _ _ (body 2);
      length_is = eqb-true _ _ (not-false _ (body 3)) ∙ ap (λ (m : ℕ). 8 + 4 * (rows_on b * m)) size;
    }

-- ---- rows

module _ (b : List ℕ) where
  pub length-arrivals : length (arrivals_on b) ≡ rows_on b * size_on b
  unfolding arrivals_on
  length-arrivals = length-table (arrival_on b) (rows_on b * size_on b)

  pub length_rows : length (rows_in b) ≡ rows_on b
  unfolding rows_in
  length_rows = length-table (row_on b) (rows_on b)

  pub length_row : (r : ℕ) → length (row_on b r) ≡ size_on b
  unfolding row_on
  length_row r = length-table _ (size_on b)

  -- the rows from row r on begin with it
  pub rows_from : (r : ℕ) → r < rows_on b → drop r (rows_in b) ≡ row_on b r ∷ drop (r + 1) (rows_in b)
  unfolding rows_in
  rows_from r h =
      drop-cons (rows_in b) r [] (omega (arith, length_rows, h))
      ∙ ap₂ (λ (x : List ℕ) (m : ℕ). x ∷ drop m (rows_in b)) (get_or-table (row_on b) (rows_on b) r [] h) (sym (add-one r))

  -- row r, as it is read where the study has n segments
  pub row_is : {n : ℕ} → size_on b ≡ n → (r : ℕ) → table (λ i. arrival_on b (r * n + i)) n ≡ row_on b r
  unfolding row_on
  row_is e r = ap (λ (m : ℕ). table (λ i. arrival_on b (r * m + i)) m) (sym e)

pub rows_are_read : RowsAreRead
unfolding row_on arrivals_on
rows_are_read b =
    let n = size_on b in
    parts_ext _ (λ r. table (λ i. arrival_on b (n * r + i)) n) (rows_on b) (λ r l. ap (λ (m : ℕ). table (λ i. arrival_on b (m + i)) n) (mul_comm r n))
    ∙ table_blocks (arrival_on b) n (rows_on b)
    ∙ ap (table (arrival_on b)) (mul_comm n (rows_on b))

-- row r of the rows is within the file
pub row_within : {n : ℕ} {b : List ℕ} → AcceptedSurvey n b → (r : ℕ) → r < rows_on b → 8 + 4 * (r * n + n) ≤ length b
row_within {n} a r h = omega (arith, a.length_is, mul-le-mul_left n h)
