-- A run: the rows of a survey file, taken as single steps up to the first that is refused.
use Rattle.std.specs.Prelude.{ℕ, zero, suc, ◌+◌, ◌<◌, ◌≡◌, not, List, [], ◌∷◌, ◌++◌, map, length, get_or, take, replicate, Float, Result}
use Rattle.laws.specs.First.{row, if_accepted}
use Rattle.laws.specs.declared.Refusal.{Refusal}
use Rattle.laws.specs.Refusal.{stopped_by}
use Rattle.survey_file.specs.File.{rows_in, survey_number}
use Rattle.metanet.specs.Line.{stepped}
use Rattle.book.specs.declared.Ran.{Ran}
use Rattle.book.specs.Arrangement.{size_at}
use Rattle.book.specs.Sound.{sound}
use Rattle.book.specs.Question.{Answer, refused, accepted, figures, number_of, says}
use Rattle.book.specs.Calls.{Call, item}
use Rattle.book.specs.Perform.{Arrays, lent, Outcome, unless, perform, Gives, after, answers}
use Rattle.book.specs.Book.{Book, enter}

-- ---- the rows, on arrays or in the book: call says what a single call does there

-- refused by a number, a row ends the run after k rows; else the later rows follow
unfoldable pub unless_stopped : {S : Type 0} → ℕ → ℕ → S → Outcome S → Outcome S
unless_stopped zero k s later = later
unless_stopped (suc m) k s later = record { state = s; answer = figures (k ∷ suc m ∷ []) }

abbrev pub step_call : List ℕ → Call
step_call r = item (stepped r)

-- each row is a Step; the answer is how many rows were taken, k of them before these, and the number that stopped the run, 0 if none
unfoldable pub run_rows : {S : Type 0} → (Call → S → Outcome S) → ℕ → List (List ℕ) → S → Outcome S
unfolding unless_stopped
run_rows call k [] s = record { state = s; answer = figures (k ∷ 0 ∷ []) }
run_rows call k (r ∷ rows) s =
    let o = call (step_call r) s in unless_stopped (number_of o.answer) k s (run_rows call (k + 1) rows o.state)

-- ---- a run on the arrays

-- before the first row: 12 study not sound; 25; 26
unfoldable pub run_refusal : List ℕ → Arrays → ℕ
run_refusal file a = row (not (sound a.words a.speeds)) 12 (survey_number (size_at a.words) file)

unfoldable pub perform_run : List ℕ → Arrays → Outcome Arrays
unfolding run_refusal run_rows unless
perform_run file a = unless (run_refusal file a) a (run_rows perform 0 (rows_in file) a)

-- rows taken, and the number that stopped it, 0 if none
abbrev pub ran_says : Result Ran Refusal → Answer
ran_says = says (λ ran. figures (ran.taken ∷ stopped_by ran.stopped ∷ []))

-- the contract of a run
abbrev pub PerformsRun : List ℕ → List ℕ → List Float → Answer → List ℕ → List Float → Type 0
PerformsRun file words speeds = Gives (perform_run file (lent words speeds))

-- ---- a run in the book, which takes it row by row as single steps

unfoldable pub enter_run : ℕ → ℕ → List ℕ → Book → Outcome Book
unfolding run_rows unless
enter_run words speeds file b = unless (survey_number b.network.head.size file) b (run_rows (enter words speeds) 0 (rows_in file) b)

-- ---- lists that hold runs

pub data CallOrRun : Type 0 where
  single : Call → CallOrRun
  -- the bytes of a survey file
  run : List ℕ → CallOrRun

unfoldable pub perform_any : CallOrRun → Arrays → Outcome Arrays
perform_any (single c) a = perform c a
perform_any (run file) a = perform_run file a

unfoldable pub enter_any : ℕ → ℕ → CallOrRun → Book → Outcome Book
enter_any words speeds (single c) b = enter words speeds c b
enter_any words speeds (run file) b = enter_run words speeds file b

-- ---- the single calls that a list comes to

-- the steps that these rows come to: up to the first that is refused, which is the last of them
unfoldable pub steps_tried : {S : Type 0} → (Call → S → Outcome S) → List (List ℕ) → S → List Call
steps_tried call [] s = []
steps_tried call (r ∷ rows) s =
    let o = call (step_call r) s in step_call r ∷ if_accepted (number_of o.answer) (steps_tried call rows o.state) []

-- a run comes to its steps, and to none where it is refused
unfoldable pub singles_of : CallOrRun → Arrays → List Call
singles_of (single c) a = c ∷ []
singles_of (run file) a = if_accepted (run_refusal file a) (steps_tried perform (rows_in file) a) []

unfoldable pub singles : List CallOrRun → Arrays → List Call
singles [] a = []
singles (c ∷ cs) a = singles_of c a ++ singles cs (perform_any c a).state

-- ---- a run is as many Step calls

-- k of the rows as Step calls on the arrays a are all accepted and leave the arrays z; these are all rows, and m is 0, or m refuses the next
pub record AsSteps (rows : List (List ℕ)) (a z : Arrays) (k m : ℕ) : Type 0 where
  pub all_accepted : answers perform (map step_call (take k rows)) a ≡ replicate k accepted
  pub same_arrays : z ≡ after perform (map step_call (take k rows)) a
  pub ended : m ≡ 0 → k ≡ length rows
  pub stopped : (m ≡ 0 → ⊥) → (k < length rows) × ((perform (step_call (get_or rows k [])) z).answer ≡ refused m)

-- where a run answers k rows and the number m
abbrev pub RunIsSteps : Type 0
RunIsSteps =
    (file : List ℕ) (a : Arrays) (k m : ℕ) → (perform_run file a).answer ≡ figures (k ∷ m ∷ [])
    → AsSteps (rows_in file) a (perform_run file a).state k m
