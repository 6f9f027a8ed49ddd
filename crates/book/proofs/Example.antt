-- The list of calls and runs on the network of "Tallies and edges": its answers, by demand 3 and a computation in the book alone.
use Prim.Native.Nat.{ℕ}
use mathlib.Core.Path.{◌≡◌, refl, ◌∙◌}
use mathlib.Core.List.{[], ◌∷◌}
use lib.Ieee.{add, sub, mul, div, lt, le, of_int, to_unsigned, to_bits}
use lib.ListN.{length}
use Rattle.laws.specs.First.{row, first, first_of, any_of}
use Rattle.laws.specs.Lists.{table, parts}
use Rattle.laws.specs.BigEndian.{u32_bytes}
use Rattle.laws.specs.Sums.{sum_of}
use Rattle.format.specs.Network.{Network, head_bad, rising, curve_number, segment_bad, followers_bad, record_rows, has_before, origin_number, segment_number, rows_number}
use Rattle.format.proofs.Accepted.{network_number, Formed}
use Rattle.format.specs.Marked.{one_segment}
use Rattle.survey_file.specs.File.{row_on, rows_in, survey_number}
use Rattle.survey_file.specs.Written.{head_bytes, survey_of}
use Rattle.metanet.specs.Case.{Case}
use Rattle.metanet.specs.Marked.{tallies}
use Rattle.metanet.specs.Speed.{keep, new_speed}
use Rattle.metanet.specs.Step.{sign_of, rate_of, moves, step_on}
use Rattle.metanet.specs.Sound.{arrival_number, step_number}
use Rattle.book.specs.Question.{accepted, question_number, figures_asked, figures_for}
use Rattle.metanet.specs.Start.{start_state, start_case, start_segment_number, start_number}
use Rattle.book.specs.Refusal.{refusal, item_number, slot_refusal, question_refusal}
use Rattle.book.specs.Perform.{unless, answer_of, answers}
use Rattle.metanet.specs.Report.{case_figures, segment_figures}
use Rattle.book.specs.Book.{started, entered, enter}
use Rattle.metanet.specs.Line.{steps_of, change, case_of}
use Rattle.book.specs.Run.{unless_stopped, run_rows, enter_run, enter_any}
use Rattle.book.specs.Example.{calls, expected, TalliesAnswers, answered}
use Rattle.book.proofs.Begun.{begun-answers, one_curve}

within : network_number tallies ≡ 0
unfolding one_segment rows_number head_bad curve_number rising segment_number segment_bad followers_bad record_rows has_before origin_number row first first_of any_of
within = refl

formed : Formed tallies
unfolding one_segment
formed = one_curve tallies refl refl refl refl

abbrev start_of : Network → Case
start_of w = start_case w (20000 ∷ []) (90000 ∷ []) (5000 ∷ [])

lists_taken : start_number tallies (20000 ∷ []) (90000 ∷ []) (5000 ∷ []) ≡ 0
unfolding one_segment start_number start_segment_number row first_of first any_of
lists_taken = refl

in_book_lem : (words speeds : ℕ) → answers (enter_any words speeds) calls (started tallies (start_of tallies)) ≡ expected
unfolding answers answered has_before enter_any enter_run run_rows unless_stopped survey_number rows_in row_on survey_of head_bytes parts u32_bytes table enter entered unless refusal item_number slot_refusal question_refusal question_number answer_of figures_asked figures_for case_figures segment_figures one_segment start_case start_state steps_of case_of change step_number arrival_number row first first_of any_of step_on new_speed keep sign_of rate_of moves sum_of add sub mul div lt le of_int to_unsigned to_bits
in_book_lem words speeds = refl

pub tallies-answers : TalliesAnswers
unfolding one_segment
tallies-answers a many speeds_many =
    begun-answers tallies within formed (20000 ∷ []) (90000 ∷ []) (5000 ∷ []) lists_taken a many speeds_many calls
    ∙ (λ i. accepted ∷ in_book_lem (length a.words) (length a.speeds) i)
