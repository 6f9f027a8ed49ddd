-- What a call says to C: a number, and figures put into lent words.
use Rattle.std.specs.Prelude.{ℕ, ◌≡◌, List, [], ◌∷◌, ◌++◌, ltb, length, drop, Float}
use Rattle.laws.specs.First.{row, first, if_accepted}
use Rattle.format.specs.File.{curve_start}
use Rattle.format.specs.Curve.{curve_call_number}
use Rattle.format.specs.Place.{Place, place_of}
use Rattle.book.specs.Question.{Answer, refused, accepted, figures, number_of}
use Rattle.book.specs.Calls.{Call}
use Rattle.book.specs.Perform.{Arrays, Outcome, lent, perform}
use Rattle.book.specs.Run.{perform_run}
use Rattle.survey_file.specs.File.{rows_on}
use Rattle.survey_file.specs.Read.{read_number, read_list}

-- ---- an answer told with the lent words out

abbrev pub figures_of : Answer → List ℕ
figures_of = elim [ refused number ↦ [] | accepted ↦ [] | figures xs ↦ xs ]

-- then 24 where fewer words are lent than there are figures
unfoldable pub told_number : Answer → List ℕ → ℕ
told_number answer out = first (number_of answer) (row (ltb (length out) (length (figures_of answer))) 24 0)

-- a refused call leaves the words as they came; later words stay
unfoldable pub told_words : Answer → List ℕ → List ℕ
told_words answer out = if_accepted (told_number answer out) (figures_of answer ++ drop (length (figures_of answer)) out) out

-- figures, unless a number refuses the call
abbrev pub figures_unless : ℕ → List ℕ → Answer
figures_unless number xs = if_accepted number (figures xs) (refused number)

-- ---- questions about a file

-- where curve k stands in it: byte offset and length
abbrev pub curve_place : List ℕ → ℕ → Answer
curve_place b k = figures_unless (curve_call_number b k) (curve_start k ∷ 804 ∷ [])

-- a place in it: the number that refuses it, or 0, the part, the rule and the byte offset
abbrev pub place_figures : Place → List ℕ
place_figures p = p.number ∷ p.part ∷ p.rule ∷ p.offset ∷ []

-- where it is wrong
abbrev pub file_place : List ℕ → Answer
file_place b = figures (place_figures (place_of b))

-- ---- a call on a study, with the words out lent for its figures: what it comes to is told. Accepted, it leaves both arrays so; refused,
-- by 24 too, as they came
pub record Told (o : Outcome Arrays) (words : List ℕ) (speeds : List Float) (out : List ℕ) (r : ℕ) (words' : List ℕ) (speeds' : List Float) (out' : List ℕ) : Type 0 where
  pub number : r ≡ told_number o.answer out
  pub figures_are : out' ≡ told_words o.answer out
  pub words_are : words' ≡ if_accepted r o.state.words words
  pub speeds_are : speeds' ≡ if_accepted r o.state.speeds speeds

-- a single call, and a run
abbrev pub Called : Call → List ℕ → List Float → List ℕ → ℕ → List ℕ → List Float → List ℕ → Type 0
Called c words speeds = Told (perform c (lent words speeds)) words speeds

abbrev pub CalledRun : List ℕ → List ℕ → List Float → List ℕ → ℕ → List ℕ → List Float → List ℕ → Type 0
CalledRun file words speeds = Told (perform_run file (lent words speeds)) words speeds

-- ---- the reader of survey files, with a list lent for the arrivals and the words out for the row count

abbrev pub rows_read : ℕ → List ℕ → List ℕ → Answer
rows_read n file list = figures_unless (read_number n file list) (rows_on file ∷ [])

pub record CalledRead (n : ℕ) (file list out : List ℕ) (r : ℕ) (list' out' : List ℕ) : Type 0 where
  pub number : r ≡ told_number (rows_read n file list) out
  pub figures_are : out' ≡ told_words (rows_read n file list) out
  pub list_is : list' ≡ if_accepted r (read_list n file list) list
