-- The writer: it makes the file from n and a list of arrivals, row by row. A file that was read writes back to its own bytes.
use Rattle.std.specs.Prelude.{ℕ, ◌+◌, ◌*◌, ◌/◌, ◌%◌, ◌<◌, ◌≡◌, not, List, [], ◌∷◌, ◌++◌, ltb, eqb, length, get_or, drop}
use Rattle.laws.specs.First.{outside, any_of, row, if_accepted}
use Rattle.laws.specs.Lists.{parts}
use Rattle.laws.specs.BigEndian.{Bytes, low, u32_bytes}
use Rattle.survey_file.specs.File.{mark, arrivals_on, survey_number}

-- the head of a file with this row count
unfoldable pub head_bytes : ℕ → ℕ → List ℕ
head_bytes n rows = get_or mark 0 0 ∷ get_or mark 1 0 ∷ get_or mark 2 0 ∷ 0 ∷ 1 ∷ low n ∷ low (rows / 256) ∷ low rows ∷ []

unfoldable pub survey_of : ℕ → List ℕ → List ℕ
survey_of n list = head_bytes n (length list / n) ++ parts (λ k. u32_bytes (get_or list k 0)) (length list)

abbrev pub survey_size : List ℕ → ℕ
survey_size list = 8 + 4 * length list

-- 26 n outside 1..40, or the list isn't 0..20,000 whole rows; last 24 where the lent bytes are too few
unfoldable pub write_number : ℕ → List ℕ → List ℕ → ℕ
write_number n list out =
    row (any_of (outside 1 n 40 ∷ not (eqb (length list % n) 0) ∷ ltb (20000 * n) (length list) ∷ [])) 26
    (row (ltb (length out) (survey_size list)) 24 0)

-- the bytes afterwards: later ones stay, and a refused call leaves them as they came
unfoldable pub written_survey : ℕ → List ℕ → List ℕ → List ℕ
written_survey n list out = if_accepted (write_number n list out) (survey_of n list ++ drop (survey_size list) out) out

-- ---- the round trip

-- an accepted file, written from its n and the list that was read, is its own bytes
abbrev pub SurveyWritesBack : Type 0
SurveyWritesBack = (n : ℕ) (b : List ℕ) → Bytes b → survey_number n b ≡ 0 → survey_of n (arrivals_on b) ≡ b

-- and a list of 32-bit arrivals that is written is accepted and reads back to itself
abbrev pub SurveyReadsBack : Type 0
SurveyReadsBack =
    (n : ℕ) (list out : List ℕ) → ((k : ℕ) → get_or list k 0 < 4294967296) → write_number n list out ≡ 0
    → (survey_number n (survey_of n list) ≡ 0) × (arrivals_on (survey_of n list) ≡ list)
