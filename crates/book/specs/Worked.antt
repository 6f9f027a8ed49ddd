-- A worked list as calls: its signs, meters and steps, and after each step a report on the live case and on each of its segments.
use Rattle.std.specs.Prelude.{ℕ, ◌+◌, ◌≤◌, ◌≡◌, List, [], ◌∷◌, ◌++◌, map, length}
use Rattle.laws.specs.Lists.{table}
use Rattle.format.specs.Written.{file_of}
use Rattle.metanet.specs.Worked.{WorkedStep, WorkedList, given_figures}
use Rattle.book.specs.Arrangement.{words_for, speeds_for}
use Rattle.book.specs.Calls.{Call, start, item, question}
use Rattle.book.specs.Question.{of_case, totals, segment, Answer, accepted, figures}
use Rattle.book.specs.Perform.{Arrays, answers}
use Rattle.book.specs.Run.{single, perform_any}

-- ---- the calls

abbrev pub start_call : WorkedList → Call
start_call l = start (file_of l.network) l.mvs l.speeds l.queues

-- of a case of n segments: its totals, then each segment's figures
abbrev pub live_reports : ℕ → List Call
live_reports n = question (of_case 0 totals) ∷ table (λ i. question (of_case 0 (segment (i + 1)))) n

unfoldable pub worked_calls : ℕ → List WorkedStep → List Call
worked_calls n [] = []
worked_calls n (k ∷ ks) = map item k.items ++ (live_reports n ++ worked_calls n ks)

-- ---- their answers: every item is accepted, and the reports give the figures of the list

unfoldable pub worked_answers : List WorkedStep → List Answer
worked_answers [] = []
worked_answers (k ∷ ks) = map (λ i. accepted) k.items ++ (map figures (given_figures k) ++ worked_answers ks)

-- on arrays of any content that are long enough
abbrev pub WorkedAnswered : WorkedList → Type 0
WorkedAnswered l =
    let n : ℕ = l.network.head.size in
    (a : Arrays) → words_for n ≤ length a.words → speeds_for n ≤ length a.speeds
    → answers perform_any (map single (start_call l ∷ worked_calls n l.steps)) a ≡ accepted ∷ worked_answers l.steps
