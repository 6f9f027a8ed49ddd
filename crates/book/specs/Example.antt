-- A list of calls and runs on the network of "Tallies and edges", and its answers on arrays of any content that are long enough.
use Rattle.std.specs.Prelude.{◌≤◌, ◌≡◌, List, [], ◌∷◌, map, pos, length}
use Rattle.format.specs.Written.{file_of}
use Rattle.survey_file.specs.Written.{survey_of}
use Rattle.metanet.specs.Marked.{tallies}
use Rattle.metanet.specs.Line.{signed, metered, stepped}
use Rattle.metanet.specs.declared.Setting.TheVariants.{Open}
use Rattle.book.specs.Question.{totals, segment, drain, of_case, run_count, Answer, refused, accepted, figures}
use Rattle.book.specs.Calls.{Call, start, item, hold, recall, drop_slot, question}
use Rattle.book.specs.Perform.{Arrays, answers}
use Rattle.book.specs.Run.{CallOrRun, single, run, perform_any}

-- 20,000 mv, 90,000 m/h, queue 5,000
abbrev pub begin : Call
begin = start (file_of tallies) (20000 ∷ []) (90000 ∷ []) (5000 ∷ [])

-- each call with its answer: the start case is held; both steps; the held case is as it was, and is recalled; a run of both steps, one that
-- its second row stops, and two that are refused; the slot is dropped. The run count has the steps of the runs too
unfoldable pub answered : List (CallOrRun × Answer)
answered =
    (single (hold 1), accepted)
    ∷ (single (hold 1), refused 22)
    ∷ (single (item (signed 1 100 (pos 50))), accepted)
    ∷ (single (item (signed 2 100 (pos 50))), refused 17)
    ∷ (single (item (signed 1 10 (pos 0))), refused 18)
    ∷ (single (item (metered 1 Open)), refused 19)
    ∷ (single (item (stepped (4000 ∷ []))), accepted)
    ∷ (single (item (stepped (0 ∷ 0 ∷ []))), refused 13)
    ∷ (single (question (of_case 0 totals)), figures (1 ∷ 16000 ∷ 3000 ∷ 4000 ∷ 10000 ∷ 250000 ∷ []))
    ∷ (single (question (of_case 1 totals)), figures (0 ∷ 20000 ∷ 5000 ∷ 0 ∷ 0 ∷ 0 ∷ []))
    ∷ (single (item (stepped (0 ∷ []))), accepted)
    ∷ (single (question (of_case 0 totals)), figures (2 ∷ 10556 ∷ 0 ∷ 4000 ∷ 18444 ∷ 440000 ∷ []))
    ∷ (single (question (of_case 0 (segment 1))), figures (10556 ∷ 97500 ∷ 4681436562192334848 ∷ 0 ∷ 8444 ∷ 3000 ∷ 6000 ∷ []))
    ∷ (single (question (of_case 0 (drain 1))), refused 19)
    ∷ (single (question (of_case 1 totals)), figures (0 ∷ 20000 ∷ 5000 ∷ 0 ∷ 0 ∷ 0 ∷ []))
    ∷ (single (recall 2), refused 23)
    ∷ (single (recall 1), accepted)
    ∷ (single (question (of_case 0 totals)), figures (0 ∷ 20000 ∷ 5000 ∷ 0 ∷ 0 ∷ 0 ∷ []))
    ∷ (run (survey_of 1 (4000 ∷ 0 ∷ [])), figures (2 ∷ 0 ∷ []))
    ∷ (single (question (of_case 0 totals)), figures (2 ∷ 10556 ∷ 0 ∷ 4000 ∷ 18444 ∷ 440000 ∷ []))
    ∷ (single (question (of_case 1 totals)), figures (0 ∷ 20000 ∷ 5000 ∷ 0 ∷ 0 ∷ 0 ∷ []))
    ∷ (run (survey_of 1 (4000 ∷ 1000001 ∷ 0 ∷ [])), figures (1 ∷ 15 ∷ []))
    ∷ (single (question (of_case 0 totals)), figures (3 ∷ 8838 ∷ 0 ∷ 8000 ∷ 24162 ∷ 545560 ∷ []))
    ∷ (run (survey_of 2 (0 ∷ 0 ∷ [])), refused 26)
    ∷ (run [], refused 25)
    ∷ (single (drop_slot 1), accepted)
    ∷ (single (question (of_case 1 totals)), refused 23)
    ∷ (single (question (of_case 7 totals)), refused 21)
    ∷ (single (question run_count), figures (5 ∷ []))
    ∷ []

abbrev pub calls : List CallOrRun
calls = map (λ (p : CallOrRun × Answer). p.0) answered

abbrev pub expected : List Answer
expected = map (λ (p : CallOrRun × Answer). p.1) answered

-- 2,560 + 7 × (16 + 8) + 16 words, 7 speeds
abbrev pub TalliesAnswers : Type 0
TalliesAnswers = (a : Arrays) → 2744 ≤ length a.words → 7 ≤ length a.speeds → answers perform_any (single begin ∷ calls) a ≡ accepted ∷ expected
