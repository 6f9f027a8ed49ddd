-- A list that holds runs comes to its single calls, on arrays and in the book, and has the same answers on both.
use Prim.Native.Nat.{ℕ, zero, suc, ◌+◌}
use mathlib.Core.Path.{◌≡◌, refl, sym, ap, ◌∙◌}
use mathlib.Core.Bool.{not}
use mathlib.Core.List.{List, [], ◌∷◌, ◌++◌}
use native.Mathlib.Nat.{suc-ne-zero}
use Rattle.laws.specs.First.{if_accepted}
use Rattle.laws.proofs.First.{row_skipped}
use Rattle.survey_file.specs.File.{rows_in, survey_number}
use Rattle.book.specs.Question.{number_of}
use Rattle.book.specs.Calls.{Call}
use Rattle.book.specs.Perform.{Arrays, Outcome, unless, refusal_at, answer_of, perform, after, answers}
use Rattle.book.specs.Refusal.{refusal}
use Rattle.book.specs.Book.{Book, grounds_in, enter}
use Rattle.book.specs.Run.{unless_stopped, step_call, run_rows, run_refusal, perform_run, enter_run, CallOrRun, single, run, perform_any, enter_any, steps_tried, singles_of, singles}
use Rattle.book.proofs.Rel.{Rel}
use Rattle.book.proofs.Views.{size_view, sound_view}
use Rattle.book.proofs.Sim.{on_arrays, in_book, call_same, call_rel}

-- ---- what a run leaves is what its steps leave, on arrays and in the book

-- a Step that is refused changes nothing
abbrev Leaves : {S : Type 0} → (Call → S → Outcome S) → Type 0
Leaves {S} call = (r : List ℕ) (s : S) → (number_of (call (step_call r) s).answer ≡ 0 → ⊥) → (call (step_call r) s).state ≡ s

unless-leaves : {S : Type 0} (m : ℕ) (s : S) (o : Outcome S) → number_of o.answer ≡ 0 → (number_of (unless m s o).answer ≡ 0 → ⊥) → (unless m s o).state ≡ s
unfolding unless
unless-leaves zero s o e n = absurd (n e)
unless-leaves (suc m) s o e n = refl

pub perform-leaves : Leaves perform
unfolding perform answer_of
perform-leaves r a n = unless-leaves (refusal_at (step_call r) a) a (on_arrays (step_call r) a) refl n

enter-leaves : (words speeds : ℕ) → Leaves (enter words speeds)
unfolding enter answer_of
enter-leaves words speeds r b n = unless-leaves (refusal (step_call r) (grounds_in words speeds b)) b (in_book (step_call r) b) refl n

module _ {S : Type 0} (call : Call → S → Outcome S) where
  after-append : (xs ys : List Call) (s : S) → after call (xs ++ ys) s ≡ after call ys (after call xs s)
  unfolding after
  after-append [] ys s = refl
  after-append (x ∷ xs) ys s = after-append xs ys (call x s).state

  unless-after : (m : ℕ) (s : S) (o : Outcome S) (cs : List Call) → o.state ≡ after call cs s → (unless m s o).state ≡ after call (if_accepted m cs []) s
  unfolding unless if_accepted after
  unless-after zero s o cs e = e
  unless-after (suc m) s o cs e = refl

  -- t is what the row leaves
  stopped-after : (m k : ℕ) (s t : S) (o : Outcome S) (cs : List Call) → ((m ≡ 0 → ⊥) → t ≡ s) → o.state ≡ after call cs t
      → (unless_stopped m k s o).state ≡ after call (if_accepted m cs []) t
  unfolding unless_stopped if_accepted after
  stopped-after zero k s t o cs leaves e = e
  stopped-after (suc m) k s t o cs leaves e = sym (leaves (suc-ne-zero m))

  rows_after : Leaves call → (rows : List (List ℕ)) (k : ℕ) (s : S) → (run_rows call k rows s).state ≡ after call (steps_tried call rows s) s
  unfolding run_rows steps_tried after
  rows_after leaves [] k s = refl
  rows_after leaves (r ∷ rows) k s =
      let o : Outcome S = call (step_call r) s in
      stopped-after (number_of o.answer) k s o.state _ _ (leaves r s) (rows_after leaves rows (k + 1) o.state)

-- ---- answers

unless-answer : {S T : Type 0} (m : ℕ) (s : S) (t : T) (x : Outcome S) (y : Outcome T) → x.answer ≡ y.answer → (unless m s x).answer ≡ (unless m t y).answer
unfolding unless
unless-answer zero s t x y e = e
unless-answer (suc m) s t x y e = refl

stopped-answer : {S T : Type 0} (m k : ℕ) (s : S) (t : T) (x : Outcome S) (y : Outcome T) → x.answer ≡ y.answer
    → (unless_stopped m k s x).answer ≡ (unless_stopped m k t y).answer
unfolding unless_stopped
stopped-answer zero k s t x y e = e
stopped-answer (suc m) k s t x y e = refl

-- ---- the arrays hold what the book says

module _ {words speeds : ℕ} where
  calls_rel : (cs : List Call) {a : Arrays} {b : Book} → Rel words speeds a b → Rel words speeds (after perform cs a) (after (enter words speeds) cs b)
  unfolding after
  calls_rel [] r = r
  calls_rel (c ∷ cs) r = calls_rel cs (call_rel r c)

  -- ---- the rows of a run
  rows_tried : (rows : List (List ℕ)) {a : Arrays} {b : Book} → Rel words speeds a b → steps_tried perform rows a ≡ steps_tried (enter words speeds) rows b
  unfolding steps_tried
  rows_tried [] r = refl
  rows_tried (x ∷ rows) r = λ i. step_call x ∷ if_accepted (number_of (call_same r (step_call x) i)) (rows_tried rows (call_rel r (step_call x)) i) []

  rows_same : (rows : List (List ℕ)) (k : ℕ) {a : Arrays} {b : Book} → Rel words speeds a b
      → (run_rows perform k rows a).answer ≡ (run_rows (enter words speeds) k rows b).answer
  unfolding run_rows
  rows_same [] k r = refl
  rows_same (x ∷ rows) k {a} {b} r =
      let p : Outcome Arrays = perform (step_call x) a in
      let q : Outcome Book = enter words speeds (step_call x) b in
      rw (call_same r (step_call x))
      (stopped-answer (number_of q.answer) k a b (run_rows perform (k + 1) rows p.state) (run_rows (enter words speeds) (k + 1) rows q.state)
      (rows_same rows (k + 1) (call_rel r (step_call x))))

  -- ---- a call or a run
  module _ {a : Arrays} {b : Book} (r : Rel words speeds a b) where
    run-number : (file : List ℕ) → run_refusal file a ≡ survey_number b.network.head.size file
    unfolding run_refusal
    run-number file = row_skipped _ _ _ (ap not (sound_view r)) ∙ ap (λ (n : ℕ). survey_number n file) (size_view r)

    any_same : (c : CallOrRun) → (perform_any c a).answer ≡ (enter_any words speeds c b).answer
    unfolding perform_any perform_run enter_any enter_run
    any_same (single c) = call_same r c
    any_same (run file) =
        rw (run-number file)
        (unless-answer (survey_number b.network.head.size file) a b (run_rows perform 0 (rows_in file) a) (run_rows (enter words speeds) 0 (rows_in file) b)
        (rows_same (rows_in file) 0 r))

    any_book : (c : CallOrRun) → (enter_any words speeds c b).state ≡ after (enter words speeds) (singles_of c a) b
    unfolding enter_any enter_run singles_of after
    any_book (single c) = refl
    any_book (run file) =
        rw (run-number file, rows_tried (rows_in file) r)
        (unless-after (enter words speeds) _ b _ _ (rows_after (enter words speeds) (enter-leaves words speeds) (rows_in file) 0 b))

any_arrays : (c : CallOrRun) (a : Arrays) → (perform_any c a).state ≡ after perform (singles_of c a) a
unfolding perform_any perform_run singles_of after
any_arrays (single c) a = refl
any_arrays (run file) a = unless-after perform _ a _ _ (rows_after perform perform-leaves (rows_in file) 0 a)

any_rel : {words speeds : ℕ} {a : Arrays} {b : Book} → Rel words speeds a b → (c : CallOrRun)
    → Rel words speeds (perform_any c a).state (enter_any words speeds c b).state
any_rel {a = a} r c = rw (any_arrays c a, any_book r c) (calls_rel (singles_of c a) r)

-- ---- a list

pub list_arrays : (cs : List CallOrRun) (a : Arrays) → after perform_any cs a ≡ after perform (singles cs a) a
unfolding after singles
list_arrays [] a = refl
list_arrays (c ∷ cs) a =
    list_arrays cs (perform_any c a).state
    ∙ ap (after perform (singles cs (perform_any c a).state)) (any_arrays c a)
    ∙ sym (after-append perform (singles_of c a) (singles cs (perform_any c a).state) a)

module _ {words speeds : ℕ} where
  pub list_book : (cs : List CallOrRun) {a : Arrays} {b : Book} → Rel words speeds a b
      → after (enter_any words speeds) cs b ≡ after (enter words speeds) (singles cs a) b
  unfolding after singles
  list_book [] r = refl
  list_book (c ∷ cs) {a} {b} r =
      list_book cs (any_rel r c)
      ∙ ap (after (enter words speeds) (singles cs (perform_any c a).state)) (any_book r c)
      ∙ sym (after-append (enter words speeds) (singles_of c a) (singles cs (perform_any c a).state) b)

  pub list_rel : (cs : List CallOrRun) {a : Arrays} {b : Book} → Rel words speeds a b
      → Rel words speeds (after perform_any cs a) (after (enter_any words speeds) cs b)
  unfolding after
  list_rel [] r = r
  list_rel (c ∷ cs) r = list_rel cs (any_rel r c)

  pub list_answers : (cs : List CallOrRun) {a : Arrays} {b : Book} → Rel words speeds a b → answers perform_any cs a ≡ answers (enter_any words speeds) cs b
  unfolding answers
  list_answers [] r = refl
  list_answers (c ∷ cs) r = λ i. any_same r c i ∷ list_answers cs (any_rel r c) i
