-- The reader: given a file and n, it answers the row count and puts the arrivals into a lent list.
use Rattle.std.specs.Prelude.{ℕ, ◌*◌, ◌≡◌, List, ◌++◌, ltb, length, drop}
use Rattle.laws.specs.First.{row, first, if_accepted}
use Rattle.laws.specs.Lists.{parts}
use Rattle.survey_file.specs.File.{size_on, rows_on, arrivals_on, row_on, survey_number}

-- 25; 26; last 24 where the lent list is too short
unfoldable pub read_number : ℕ → List ℕ → List ℕ → ℕ
read_number n b list = first (survey_number n b) (row (ltb (length list) (rows_on b * size_on b)) 24 0)

-- the list afterwards: later places stay, and a refused call leaves it as it came
unfoldable pub read_list : ℕ → List ℕ → List ℕ → List ℕ
read_list n b list = if_accepted (read_number n b list) (arrivals_on b ++ drop (rows_on b * size_on b) list) list

-- what it reads is the rows that a run takes, one after the other
abbrev pub RowsAreRead : Type 0
RowsAreRead = (b : List ℕ) → parts (row_on b) (rows_on b) ≡ arrivals_on b
