-- The worked lists as calls: their answers, by demand 3 and the figures of the lists.
use Prim.Native.Nat.{ℕ}
use mathlib.Core.Path.{◌≡◌, refl, ap, ◌∙◌}
use mathlib.Core.List.{List, [], ◌∷◌, ◌++◌, map}
use lib.ListN.{length}
use Rattle.laws.specs.First.{row, first, first_of, any_of}
use Rattle.laws.specs.Lists.{table}
use Rattle.format.proofs.Accepted.{network_number, Formed}
use Rattle.format.specs.Network.{chain, head_bad, rising, curve_number, segment_bad, followers_bad, record_rows, has_before, origin_number, segment_number, rows_number}
use Rattle.metanet.specs.Sound.{arrival_number, step_number}
use Rattle.metanet.specs.Start.{start_segment_number, start_number}
use Rattle.metanet.specs.Line.{steps_of}
use Rattle.metanet.specs.Worked.{WorkedStep, WorkedList, WorkedHolds, given_figures, all_figures, figures_along, start_case_of, chain_network, chain_list}
use Rattle.metanet.specs.WorkedJunction.{junction_network, junction_list}
use Rattle.metanet.proofs.Worked.{chain_holds, junction_holds}
use Rattle.book.specs.Question.{question_number, figures_for, figures_asked, Answer, accepted, figures}
use Rattle.book.specs.Refusal.{item_number, question_refusal, refusal}
use Rattle.book.specs.Perform.{unless, answer_of, answers}
use Rattle.book.specs.Book.{started, entered, enter}
use Rattle.book.specs.Run.{single, enter_any}
use Rattle.book.specs.Worked.{worked_calls, worked_answers, WorkedAnswered}
use Rattle.book.proofs.Begun.{begun-answers, one_curve}

-- the answers where the reports after each step give the figures fs
answers_with : List WorkedStep → List (List (List ℕ)) → List Answer
answers_with [] fs = []
answers_with (k ∷ ks) [] = []
answers_with (k ∷ ks) (f ∷ fs) = map (λ i. accepted) k.items ++ (map figures f ++ answers_with ks fs)

answers_given : (ks : List WorkedStep) → answers_with ks (map given_figures ks) ≡ worked_answers ks
unfolding answers_with worked_answers
answers_given [] = refl
answers_given (k ∷ ks) = ap (λ (l : List Answer). map (λ i. accepted) k.items ++ (map figures (given_figures k) ++ l)) (answers_given ks)

-- a list is answered where its network and start are accepted, where the book takes its calls and where its figures hold
worked_answered : (l : WorkedList) → network_number l.network ≡ 0 → Formed l.network → start_number l.network l.mvs l.speeds l.queues ≡ 0
    → ((words speeds : ℕ)
    → answers (enter_any words speeds) (map single (worked_calls l.network.head.size l.steps)) (started l.network (start_case_of l))
    ≡ answers_with l.steps (figures_along all_figures l.network (start_case_of l) [] l.steps))
    → WorkedHolds l → WorkedAnswered l
worked_answered l within formed taken in_book_lem holds a many speeds_many =
    begun-answers l.network within formed l.mvs l.speeds l.queues taken a many speeds_many (map single (worked_calls l.network.head.size l.steps))
    ∙ ap (λ (l : List Answer). accepted ∷ l)
    (in_book_lem (length a.words) (length a.speeds) ∙ ap (answers_with l.steps) holds.reported ∙ answers_given l.steps)

-- ---- the chain and the junction, whatever the cases of the book's lines are

pub chain-answered : WorkedAnswered chain_list
unfolding chain_list chain answers_with figures_along worked_calls answers enter_any enter entered unless refusal item_number question_refusal question_number answer_of figures_asked figures_for steps_of step_number arrival_number start_number start_segment_number has_before table rows_number head_bad curve_number rising segment_number segment_bad followers_bad record_rows origin_number row first first_of any_of
chain-answered = worked_answered chain_list refl (one_curve chain_network refl refl refl refl) refl (λ words speeds. refl) chain_holds

pub junction_answered : WorkedAnswered junction_list
unfolding junction_list answers_with figures_along worked_calls answers enter_any enter entered unless refusal item_number question_refusal question_number answer_of figures_asked figures_for steps_of step_number arrival_number start_number start_segment_number has_before table rows_number head_bad curve_number rising segment_number segment_bad followers_bad record_rows origin_number row first first_of any_of
junction_answered = worked_answered junction_list refl (one_curve junction_network refl refl refl refl) refl (λ words speeds. refl) junction_holds
