-- The survey file, a day of arrivals: where each number stands in its bytes, and the rows of the table that refuse it.
use Rattle.std.specs.Prelude.{ℕ, ◌+◌, ◌*◌, Bool, not, List, [], ◌∷◌, ltb, eqb, length}
use Rattle.laws.specs.First.{outside, any_of, row}
use Rattle.laws.specs.Lists.{table}
use Rattle.laws.specs.BigEndian.{byte_at, u16_at, u32_at, begins_with}

-- ---- head, 8 bytes: mark "FWD", 16-bit version, one byte n, 16-bit row count

abbrev pub mark : List ℕ
mark = 70 ∷ 87 ∷ 68 ∷ []

abbrev pub has_mark : List ℕ → Bool
has_mark = begins_with mark

abbrev pub size_on : List ℕ → ℕ
size_on b = byte_at b 5

abbrev pub rows_on : List ℕ → ℕ
rows_on b = u16_at b 6

-- ---- then rows of n 32-bit arrivals

-- arrival k of the file, counted over all rows
abbrev pub arrival_on : List ℕ → ℕ → ℕ
arrival_on b k = u32_at b (8 + 4 * k)

unfoldable pub arrivals_on : List ℕ → List ℕ
arrivals_on b = table (arrival_on b) (rows_on b * size_on b)

-- row r, counted from 0
unfoldable pub row_on : List ℕ → ℕ → List ℕ
row_on b r = table (λ i. arrival_on b (r * size_on b + i)) (size_on b)

unfoldable pub rows_in : List ℕ → List (List ℕ)
unfolding row_on
rows_in b = table (row_on b) (rows_on b)

-- ---- the table, for a study or a reader of n segments

-- 25 under 8 bytes, mark or version; 26 n outside 1..40, n not the file's, row count above 20,000, or wrong length
unfoldable pub survey_number : ℕ → List ℕ → ℕ
survey_number n b =
    row (any_of (ltb (length b) 8 ∷ not (has_mark b) ∷ not (eqb (u16_at b 3) 1) ∷ [])) 25
    (row
    (any_of
    (outside 1 n 40
    ∷ not (eqb (size_on b) n)
    ∷ ltb 20000 (rows_on b)
    ∷ not (eqb (length b) (8 + 4 * (rows_on b * size_on b)))
    ∷ [])) 26 0)
