-- One call: on arrays that hold what the book says it answers as the book answers, and leaves arrays that hold what the book then says.
use Prim.Native.Nat.{ℕ, zero, suc}
use mathlib.Core.Path.{◌≡◌, refl, ap}
use mathlib.Core.Bool.{true, ◌||◌}
use mathlib.Core.List.{[], ◌∷◌}
use lib.Dec.{eqb}
use borrow.Author.Tests.{not-false}
use Rattle.laws.proofs.First.{row_passed, row_later}
use Rattle.book.specs.Arrangement.{network_at, run_count_at, case_at}
use Rattle.book.specs.Calls.{Call, start, hold, recall, drop_slot, item, question}
use Rattle.book.specs.Question.{run_count, figures, figures_asked, Question, of_case, figures_for, CaseQuestion}
use Rattle.book.specs.Refusal.{refusal, question_refusal}
use Rattle.book.specs.Perform.{Arrays, Outcome, unless, answer_of, perform, stored}
use Rattle.book.specs.Book.{Book, is_filled, entered, grounds_in, enter, book_case}
use Rattle.book.proofs.Rel.{Rel}
use Rattle.book.proofs.Views.{refusal_view, asked_view}
use Rattle.book.proofs.Storing.{hold_rel, recall_rel, drop_rel, start_rel, item_rel}

-- an accepted call's outcome
abbrev pub on_arrays : Call → Arrays → Outcome Arrays
on_arrays c a = record { state = stored c a; answer = answer_of c (network_at a.words) (case_at a.words a.speeds) (run_count_at a.words) }

abbrev pub in_book : Call → Book → Outcome Book
in_book c b = record { state = entered c b; answer = answer_of c b.network (book_case b) b.runs }

module _ {words speeds : ℕ} {a : Arrays} {b : Book} (r : Rel words speeds a b) where
  store_rel : (c : Call) → refusal c (grounds_in words speeds b) ≡ 0 → Rel words speeds (stored c a) (entered c b)
  unfolding entered stored refusal
  store_rel (start file mvs initial queues) e = start_rel file mvs initial queues a (grounds_in words speeds b) r.words_long r.speeds_long e
  store_rel (item i) e = item_rel r i e
  store_rel (hold k) e = hold_rel r k e
  store_rel (recall k) e = recall_rel r k e
  store_rel (drop_slot k) e = drop_rel r k e
  store_rel (question q) e = r

  -- the case that a question may ask about
  asked : (k : ℕ) (q : CaseQuestion) → question_refusal (of_case k q) (grounds_in words speeds b) ≡ 0 → (eqb k 0 || is_filled (b.slot k)) ≡ true
  unfolding question_refusal
  asked k q e = not-false _ (row_passed _ _ _ (row_later _ _ _ e))

  -- arrays and book answer alike
  figures_same : (q : Question) → question_refusal q (grounds_in words speeds b) ≡ 0
      → figures_asked q (network_at a.words) (case_at a.words a.speeds) (run_count_at a.words) ≡ figures_asked q b.network (book_case b) b.runs
  unfolding figures_asked
  figures_same (of_case k q) e = λ j. figures_for q (r.network j) (asked_view r k (asked k q e) j)
  figures_same run_count e = λ j. r.runs j ∷ []

  answer_same : (c : Call) → refusal c (grounds_in words speeds b) ≡ 0
      → answer_of c (network_at a.words) (case_at a.words a.speeds) (run_count_at a.words) ≡ answer_of c b.network (book_case b) b.runs
  unfolding answer_of refusal
  answer_same (start file mvs initial queues) e = refl
  answer_same (item i) e = refl
  answer_same (hold k) e = refl
  answer_same (recall k) e = refl
  answer_same (drop_slot k) e = refl
  answer_same (question q) e = ap figures (figures_same q e)

  pub call_same : (c : Call) → (perform c a).answer ≡ (enter words speeds c b).answer
  unfolding perform enter unless
  call_same c = rw (refusal_view r c) (go (refusal c (grounds_in words speeds b)) refl)
    where
      go : (m : ℕ) → refusal c (grounds_in words speeds b) ≡ m → (unless m a (on_arrays c a)).answer ≡ (unless m b (in_book c b)).answer
      go zero e = answer_same c e
      go (suc m) e = refl

  pub call_rel : (c : Call) → Rel words speeds (perform c a).state (enter words speeds c b).state
  unfolding perform enter unless
  call_rel c = rw (refusal_view r c) (go (refusal c (grounds_in words speeds b)) refl)
    where
      go : (m : ℕ) → refusal c (grounds_in words speeds b) ≡ m → Rel words speeds (unless m a (on_arrays c a)).state (unless m b (in_book c b)).state
      go zero e = store_rel c e
      go (suc m) e = r
