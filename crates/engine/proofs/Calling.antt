-- From what `survey`, `study` and `reports` promise to what C is told.
use Rattle.std.proofs.Common.{◌≡◌, ℕ, zero, suc, ◌+◌, ◌*◌, ◌<◌, ◌≤◌, Bool, true, false, ltb, List, [], ◌∷◌, length, Result, Ok, Err, refl, sym, ap, ◌∙◌, arith, lt-ltb, le-ltb}
use Rattle.std.specs.Result.{result_and}
use lib.Ieee.{Float}
use Rattle.laws.specs.declared.Refusal.{Refusal}
use Rattle.laws.specs.declared.Refusal.TheVariants as refusal
use Rattle.laws.specs.First.{row, first, if_accepted}
use Rattle.laws.specs.Refusal.{number, refused}
use Rattle.laws.proofs.First.{row_applies, row_skipped, first_zero, first_some, when_accepted, when_refused}
use Rattle.laws.proofs.Refused.{number_above, number_some, first_above, lent_stays}
use Rattle.format.proofs.CurveCall.{curve_below}
use Rattle.survey_file.specs.File.{size_on, rows_on, rows_in, survey_number}
use Rattle.survey_file.specs.Read.{read_number, read_list}
use Rattle.book.specs.Question.{Answer, accepted, figures, number_of, says, verdict_says, count_says}
use Rattle.book.specs.Question as answer
use Rattle.book.specs.Calls.{Call, start, item, hold, recall, drop_slot, question}
use Rattle.book.specs.Perform.{Arrays, Outcome, lent, refusal_at, answer_of, unless, perform, Gives, Performs}
use Rattle.book.specs.Run.{unless_stopped, step_call, run_rows, run_refusal, perform_run}
use Rattle.book.proofs.Performing.{unless-number}
use Rattle.book.proofs.Sim.{on_arrays}
use Rattle.book.specs.Write.{write_refusal, write_answer}
use Rattle.engine.specs.Study.{told_number, told_words, figures_unless, Told, Called, rows_read}

-- ---- calls on a study

-- refused by a number m with nothing changed, or accepted as o says
module _ (words : List ℕ) (speeds : List Float) (o : Outcome Arrays) where
  abbrev either : ℕ → Outcome Arrays
  either m = unless m (lent words speeds) o

  either_kept : {A : Type 0} (f : Arrays → A) (m : ℕ) → f (either m).state ≡ if_accepted m (f (either m).state) (f (lent words speeds))
  unfolding unless if_accepted
  either_kept f zero = refl
  either_kept f (suc m) = refl

  either_says : {xs : List ℕ} → o.answer ≡ figures xs → (m : ℕ) → (either m).answer ≡ figures_unless m xs
  unfolding unless if_accepted
  either_says e zero = e
  either_says e (suc m) = refl

-- an accepted call says no number
no_number : (c : Call) (a : Arrays) → number_of (on_arrays c a).answer ≡ 0
unfolding answer_of
no_number (start file mvs speeds queues) a = refl
no_number (item i) a = refl
no_number (hold k) a = refl
no_number (recall k) a = refl
no_number (drop_slot k) a = refl
no_number (question q) a = refl

-- what is the same, accepted or refused, stays
pub stays : (A : Type 0) (r : ℕ) (l : A) → if_accepted r l l ≡ l
unfolding if_accepted
stays A zero l = refl
stays A (suc m) l = refl

-- a refusal is told by its number, whatever is lent for figures
pub refused_told : (out : List ℕ) (m : ℕ) → (m ≡ told_number (answer.refused m) out) × (out ≡ told_words (answer.refused m) out)
unfolding told_number told_words first if_accepted
refused_told out zero =
    let none : row (ltb (length out) 0) 24 0 ≡ 0 = row_skipped _ _ _ (le-ltb (length out) 0 (omega arith)) in
    (sym none, sym (when_accepted (row (ltb (length out) 0) 24 0) out out none))
refused_told out (suc m) = (refl, refl)

-- where no words are lent, none is told
pub nothing_told : (x : Answer) → told_words x [] ≡ []
unfolding told_number told_words row first if_accepted
nothing_told (answer.refused m) = stays _ (first m 0) []
nothing_told answer.accepted = refl
nothing_told (figures []) = refl
nothing_told (figures (x ∷ xs)) = rw (lt-ltb 0 (length (x ∷ xs)) (omega arith)) refl

number_told : (v : Result (Unit {0}) Refusal) → told_number (verdict_says v) [] ≡ refused v
unfolding told_number row first
number_told (Ok x) = refl
number_told (Err why) = first_some (number why) 0 (number_some why)

says_number : (v : Result (Unit {0}) Refusal) → refused v ≡ number_of (verdict_says v)
says_number (Ok x) = refl
says_number (Err why) = refl

-- a call that is no question, whose answer is a verdict
module _ (c : Call) (words : List ℕ) (speeds : List Float) (v : Result (Unit {0}) Refusal) where
  abbrev a : Arrays
  a = lent words speeds

  module _ (says : verdict_says v ≡ (perform c a).answer) where
    own : refused v ≡ refusal_at c a
    unfolding perform
    own = says_number v ∙ ap number_of says ∙ unless-number (refusal_at c a) a (on_arrays c a) (no_number c a)

    kept : {A : Type 0} (f : Arrays → A) → if_accepted (refused v) (f (perform c a).state) (f a) ≡ f (perform c a).state
    unfolding perform
    kept f = rw own (sym (either_kept words speeds (on_arrays c a) f (refusal_at c a)))

    pub call_number : told_number (perform c a).answer [] ≡ refused v
    call_number = rw (← says) (number_told v)

    pub call_words : if_accepted (refused v) (perform c a).state.words words ≡ (perform c a).state.words
    call_words = kept (λ (b : Arrays). b.words)

    pub call_speeds : if_accepted (refused v) (perform c a).state.speeds speeds ≡ (perform c a).state.speeds
    call_speeds = kept (λ (b : Arrays). b.speeds)

  -- so what a function of `study` or `begin` promises is what C is told: no words are lent for figures
  pub called : {words' : List ℕ} {speeds' : List Float} {r : ℕ} → r ≡ number_of (verdict_says v) → Performs c words speeds (verdict_says v) words' speeds'
      → Called c words speeds [] r words' speeds' []
  called e p =
      let is = e ∙ sym (says_number v) in
      record {
        number = is ∙ sym (call_number p.answers);
        figures_are = sym (nothing_told (perform c a).answer);
        words_are = p.words_are ∙ sym (call_words p.answers) ∙ ap (λ (m : ℕ). if_accepted m (perform c a).state.words words) (sym is);
        speeds_are = p.speeds_are ∙ sym (call_speeds p.answers) ∙ ap (λ (m : ℕ). if_accepted m (perform c a).state.speeds speeds) (sym is);
      }

-- a question leaves both arrays, with room for its figures or without
pub reported : {o : Outcome Arrays} {words : List ℕ} {speeds : List Float} {out out' : List ℕ} {r : ℕ} {x : Answer}
    → (r ≡ told_number x out) × (out' ≡ told_words x out) → Gives o x words speeds → Told o words speeds out r words speeds out'
reported {words = words} {speeds = speeds} {out = out} {r = r} e p =
    record {
      number = e.0 ∙ ap (λ (y : Answer). told_number y out) p.answers;
      figures_are = e.1 ∙ ap (λ (y : Answer). told_words y out) p.answers;
      words_are = sym (stays _ r words) ∙ ap (λ (l : List ℕ). if_accepted r l words) p.words_are;
      speeds_are = sym (stays _ r speeds) ∙ ap (λ (l : List Float). if_accepted r l speeds) p.speeds_are;
    }

-- ---- figures that a number may refuse, by the room for them

module _ (m : ℕ) (xs out : List ℕ) (x : Answer) (is : x ≡ figures_unless m xs) where
  -- with room only the number refuses
  with_room : length xs ≤ length out → told_number x out ≡ m
  unfolding told_number first if_accepted
  with_room room = rw is (go m)
    where
      go : (k : ℕ) → told_number (figures_unless k xs) out ≡ k
      go zero = row_skipped _ _ _ (le-ltb (length out) (length xs) room)
      go (suc k) = refl

  module _ (short : length out < length xs) where
    -- without it 24 does where nothing else refuses
    without_room : told_number x out ≡ first m 24
    unfolding told_number first if_accepted
    without_room = rw is (go m)
      where
        go : (k : ℕ) → told_number (figures_unless k xs) out ≡ first k 24
        go zero = row_applies _ _ _ (lt-ltb (length out) (length xs) short)
        go (suc k) = refl

    refuses : told_number x out ≡ 0 → ⊥
    unfolding first
    refuses z = go m (sym without_room ∙ z)
      where
        go : (k : ℕ) → first k 24 ≡ 0 → ⊥
        go zero e = omega (arith, e)
        go (suc k) e = omega (arith, e)

    -- and nothing is put
    nothing_put : told_words x out ≡ out
    unfolding told_words
    nothing_put = when_refused _ _ _ refuses

-- what refuses a call that has no room
abbrev no_room_for : Result (Unit {0}) Refusal → Result (Unit {0}) Refusal
no_room_for v = result_and v (Err refusal.NoRoom)

no_room : (v : Result (Unit {0}) Refusal) → refused (no_room_for v) ≡ first (refused v) 24
unfolding first
no_room (Ok x) = refl
no_room (Err why) = sym (first_some (number why) 24 (number_some why))

pub no_room_stays : {A : Type 0} (v : Result (Unit {0}) Refusal) (x y : A) → if_accepted (refused (no_room_for v)) x y ≡ y
no_room_stays (Ok _) x y = when_refused 24 x y (λ z. omega (arith, z))
no_room_stays (Err why) x y = when_refused _ x y (number_some why)

-- ---- a run

-- whatever the rows come to, the answer is two figures
abbrev TwoFigures : Answer → Type 0
TwoFigures x = (k : ℕ) × (m : ℕ) × (x ≡ figures (k ∷ m ∷ []))

stopped_two : (n k : ℕ) (a : Arrays) (later : Outcome Arrays) → TwoFigures later.answer → TwoFigures (unless_stopped n k a later).answer
unfolding unless_stopped
stopped_two zero k a later two = two
stopped_two (suc n) k a later two = (k, suc n, refl)

rows_two : (rows : List (List ℕ)) (k : ℕ) (a : Arrays) → TwoFigures (run_rows perform k rows a).answer
unfolding run_rows
rows_two [] k a = (k, 0, refl)
rows_two (r ∷ rows) k a =
    let o = perform (step_call r) a in
    stopped_two (number_of o.answer) k a (run_rows perform (k + 1) rows o.state) (rows_two rows (k + 1) o.state)

module _ (file words : List ℕ) (speeds : List Float) (out : List ℕ) where
  abbrev lent_arrays : Arrays
  lent_arrays = lent words speeds

  abbrev ran : Outcome Arrays
  ran = perform_run file lent_arrays

  abbrev rows : Outcome Arrays
  rows = run_rows perform 0 (rows_in file) lent_arrays

  ran_says_lem : (k : ℕ) × (m : ℕ) × (ran.answer ≡ figures_unless (run_refusal file lent_arrays) (k ∷ m ∷ []))
  unfolding perform_run
  ran_says_lem =
      let (k, m, e) = rows_two (rows_in file) 0 lent_arrays in
      (k, m, either_says words speeds rows e (run_refusal file lent_arrays))

  module _ (room : 2 ≤ length out) where
    ran_number : told_number ran.answer out ≡ run_refusal file lent_arrays
    ran_number = let (k, m, e) = ran_says_lem in with_room _ (k ∷ m ∷ []) out ran.answer e room

    pub run_words : if_accepted (told_number ran.answer out) ran.state.words words ≡ ran.state.words
    unfolding perform_run
    run_words = rw ran_number (sym (either_kept words speeds rows (λ (a : Arrays). a.words) (run_refusal file lent_arrays)))

    pub run_speeds : if_accepted (told_number ran.answer out) ran.state.speeds speeds ≡ ran.state.speeds
    unfolding perform_run
    run_speeds = rw ran_number (sym (either_kept words speeds rows (λ (a : Arrays). a.speeds) (run_refusal file lent_arrays)))

  module _ (short : length out < 2) where
    pub run_short : (v : Result (Unit {0}) Refusal) → refused v ≡ run_refusal file lent_arrays → told_number ran.answer out ≡ refused (no_room_for v)
    run_short v is = let (k, m, e) = ran_says_lem in without_room _ (k ∷ m ∷ []) out ran.answer e short ∙ sym (no_room v ∙ ap (λ (n : ℕ). first n 24) is)

    pub run_figures_stay : told_words ran.answer out ≡ out
    run_figures_stay = let (k, m, e) = ran_says_lem in nothing_put _ (k ∷ m ∷ []) out ran.answer e short

-- ---- the reader of survey files

module _ (n : ℕ) (file list out : List ℕ) where
  abbrev answer_read : Answer
  answer_read = rows_read n file list

  -- with room for the row count only the reader's own number says whether the list was read
  pub list_kept : (v : Result ℕ Refusal) → refused v ≡ read_number n file list → 1 ≤ length out
      → if_accepted (told_number (count_says v) out) (read_list n file list) list ≡ read_list n file list
  unfolding told_number first read_list
  list_kept (Ok rows) is room = when_accepted _ _ _ (row_skipped _ _ _ (le-ltb (length out) 1 room))
  list_kept (Err why) is room = rw (when_refused _ _ _ (λ z. number_some why (is ∙ z))) (stays _ _ list)

  module _ (short : length out < 1) where
    -- a list that is too short is refused by 24 too
    read_24 : first (read_number n file list) 24 ≡ first (survey_number n file) 24
    unfolding read_number
    read_24 = go (survey_number n file) (ltb (length list) (rows_on file * size_on file))
      where
        go : (m : ℕ) (short : Bool) → first (first m (row short 24 0)) 24 ≡ first m 24
        go zero true = unfold first row in refl
        go zero false = unfold first row in refl
        go (suc m) short = unfold first in refl

    pub read_short : (v : Result (Unit {0}) Refusal) → refused v ≡ survey_number n file → told_number answer_read out ≡ refused (no_room_for v)
    read_short v is = without_room _ (rows_on file ∷ []) out answer_read refl short ∙ read_24 ∙ sym (no_room v ∙ ap (λ (n : ℕ). first n 24) is)

    pub read_figures_stay : told_words answer_read out ≡ out
    read_figures_stay = nothing_put _ (rows_on file ∷ []) out answer_read refl short

-- ---- the writer of a study's network

pub written : (words : List ℕ) (speeds : List Float) (out : List ℕ) (v : Result ℕ Refusal) → count_says v ≡ write_answer words speeds out
    → refused {A = Unit {0}} (result_and v (Ok tt)) ≡ write_refusal words speeds out
unfolding write_answer if_accepted
written words speeds out v is = says_it v ∙ ap number_of is ∙ go (write_refusal words speeds out) _
  where
    says_it : (v : Result ℕ Refusal) → refused {A = Unit {0}} (result_and v (Ok tt)) ≡ number_of (count_says v)
    says_it (Ok x) = refl
    says_it (Err why) = refl

    go : (m : ℕ) (xs : List ℕ) → number_of (figures_unless m xs) ≡ m
    go zero xs = unfold if_accepted in refl
    go (suc m) xs = unfold if_accepted in refl

-- what puts figures into the lent words
pub ruleset telling = (number_above, first_above, first_zero, lent_stays, when_accepted)

-- what the functions of the interface need
pub ruleset interface = (
  curve_below,
  telling,
  nothing_told,
  call_number,
  call_words,
  call_speeds,
  stays,
  run_words,
  run_speeds,
  run_short,
  run_figures_stay,
  no_room_stays,
  read_short,
  read_figures_stay,
  written,
)
