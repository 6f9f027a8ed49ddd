-- The rows of a run, one after the other: what was taken so far, and what the rows that are left come to.
use Prim.Native.Nat.{ℕ, zero, suc, ◌+◌, ◌≤◌, ◌<◌}
use mathlib.Core.Path.{◌≡◌, refl, sym, ap, ◌∙◌}
use mathlib.Core.Bool.{true, false, false≢true, true≢false}
use mathlib.Core.List.{List, [], ◌∷◌}
use native.Mathlib.Omega.{arith}
use lib.ListN.{get_or, drop, drop_of_length-le}
use lib.Ieee.{Float}
use borrow.Author.Tests.{not-false}
use Rattle.laws.specs.declared.Refusal.{Refusal}
use Rattle.std.specs.Prelude.{Result, Ok, Err}
use Rattle.std.specs.Option.{is_some}
use Rattle.std.specs.Result.{result_err}
use Rattle.laws.specs.Refusal.{number, refused as refused_by, stopped_by}
use Rattle.laws.proofs.Refused.{number_above, number_some}
use Rattle.laws.proofs.First.{row_passed, row_later}
use Rattle.survey_file.specs.File.{rows_on, row_on, rows_in, survey_number}
use Rattle.survey_file.proofs.Accepted.{AcceptedSurvey, survey_accepted, length_rows, rows_from}
use Rattle.book.specs.Sound.{sound}
use Rattle.book.specs.Question.{Answer, refused, figures, number_of}
use Rattle.book.specs.Perform.{Arrays, Outcome, lent, refusal_at, answer_of, perform, Gives}
use Rattle.book.specs.Run.{step_call, unless_stopped, run_rows, run_refusal, perform_run}
use Rattle.book.proofs.Network.{size_word}
use Rattle.book.proofs.Rows.{RowReady, row_sized}
use Rattle.book.proofs.Performing.{unless-refused, unless-accepted, unless-number}
use Rattle.book.proofs.Sim.{on_arrays}
use Rattle.study.specs.Rows.{RowTaken}
use Rattle.study.proofs.Stepping.{row_fits}

-- ---- a Step, by the number that refuses it

module _ (ds : List ℕ) (a : Arrays) where
  step_number_lem : number_of (perform (step_call ds) a).answer ≡ refusal_at (step_call ds) a
  unfolding perform answer_of
  step_number_lem = unless-number (refusal_at (step_call ds) a) a (on_arrays (step_call ds) a) refl

  step_stays : 0 < refusal_at (step_call ds) a → (perform (step_call ds) a).state ≡ a
  unfolding perform
  step_stays some = ap (λ (o : Outcome Arrays). o.state) (unless-refused (refusal_at (step_call ds) a) a (on_arrays (step_call ds) a) (λ z. omega (arith, z)))

stop_taken : {S : Type 0} (m k : ℕ) (s : S) (later : Outcome S) → m ≡ 0 → unless_stopped m k s later ≡ later
unfolding unless_stopped
stop_taken m k s later z = rw z

stop_refused : {S : Type 0} (m k : ℕ) (s : S) (later : Outcome S) → 0 < m → unless_stopped m k s later ≡ record { state = s; answer = figures (k ∷ m ∷ []) }
unfolding unless_stopped
stop_refused zero k s later some = absurd (omega arith)
stop_refused (suc m) k s later some = refl

-- ---- what a row's answer says of the run

pub stopped_number : (v : Result (Unit {0}) Refusal) → stopped_by (result_err v) ≡ refused_by v
stopped_number (Ok x) = refl
stopped_number (Err why) = refl

pub stopped_some : (v : Result (Unit {0}) Refusal) → is_some (result_err v) ≡ true → 0 < refused_by v
stopped_some (Ok x) e = absurd (false≢true e)
stopped_some (Err why) e = number_above why

pub stopped_none : (v : Result (Unit {0}) Refusal) → is_some (result_err v) ≡ false → 0 ≡ refused_by v
stopped_none (Ok x) e = refl
stopped_none (Err why) e = absurd (true≢false e)

-- ---- what the rows from row k on come to

module _ (file : List ℕ) (k : ℕ) (words : List ℕ) (speeds : List Float) where
  abbrev a : Arrays
  a = lent words speeds

  abbrev rest : Outcome Arrays
  rest = run_rows perform k (drop k (rows_in file)) a

  module _ (more : k < rows_on file) where
    abbrev o : Outcome Arrays
    o = perform (step_call (row_on file k)) a

    rest_from : rest ≡ unless_stopped (refusal_at (step_call (row_on file k)) a) k a (run_rows perform (k + 1) (drop (k + 1) (rows_in file)) o.state)
    unfolding run_rows
    rest_from =
        ap (λ (rows : List (List ℕ)). run_rows perform k rows a) (rows_from file k more)
        ∙ ap (λ (m : ℕ). unless_stopped m k a (run_rows perform (k + 1) (drop (k + 1) (rows_in file)) o.state)) (step_number_lem (row_on file k) a)

    -- row k is taken, or it is refused and ends the run
    module _ {r : ℕ} {words' : List ℕ} {speeds' : List Float} (t : RowTaken words speeds (row_on file k) r words' speeds') where
      pub rest_taken : 0 ≡ r → rest ≡ run_rows perform (k + 1) (drop (k + 1) (rows_in file)) (lent words' speeds')
      rest_taken z =
          rest_from
          ∙ stop_taken _ k a _ (sym (z ∙ t.number))
          ∙ (λ j. run_rows perform (k + 1) (drop (k + 1) (rows_in file)) (lent (sym t.words_are j) (sym t.speeds_are j)))

      pub rest_stopped : 0 < r → rest ≡ record { state = lent words' speeds'; answer = figures (k ∷ r ∷ []) }
      rest_stopped some =
          let m = refusal_at (step_call (row_on file k)) a in
          let above : 0 < m = omega (arith, t.number) in
          let stays = step_stays (row_on file k) a above in
          let words_stay : words ≡ words' = sym (t.words_are ∙ ap (λ (x : Arrays). x.words) stays) in
          let speeds_stay : speeds ≡ speeds' = sym (t.speeds_are ∙ ap (λ (x : Arrays). x.speeds) stays) in
          rest_from
          ∙ stop_refused m k a _ above
          ∙ (λ j. record { state = lent (words_stay j) (speeds_stay j); answer = figures (k ∷ sym t.number j ∷ []) })

  -- no row is left
  pub rest_none : rows_on file ≤ k → rest ≡ record { state = a; answer = figures (k ∷ 0 ∷ []) }
  unfolding run_rows
  rest_none full = ap (λ (rows : List (List ℕ)). run_rows perform k rows a) (drop_of_length-le (rows_in file) (omega (arith, length_rows file)))

-- the outcome o, in its parts
pub ends : {o : Outcome Arrays} {answer : Answer} {words : List ℕ} {speeds : List Float} → o ≡ record { state = lent words speeds; answer = answer } → Gives o answer words speeds
ends e =
    record {
      answers = ap (λ (o : Outcome Arrays). o.answer) (sym e);
      words_are = ap (λ (o : Outcome Arrays). o.state.words) (sym e);
      speeds_are = ap (λ (o : Outcome Arrays). o.state.speeds) (sym e);
    }

pub ruleset row_loop = (row_fits, rest_none, ends)

-- ---- the call

module _ (file words : List ℕ) (speeds : List Float) where
  abbrev lent_here : Arrays
  lent_here = lent words speeds

  pub run_refused : (why : Refusal) → number why ≡ run_refusal file lent_here → Gives (perform_run file lent_here) (refused (number why)) words speeds
  unfolding perform_run
  run_refused why e =
      ends
      (unless-refused (run_refusal file lent_here) lent_here (run_rows perform 0 (rows_in file) lent_here) (λ z. number_some why (e ∙ z))
      ∙ ap (λ (m : ℕ). record { state = lent_here; answer = refused m }) (sym e))

  module _ (z : 0 ≡ run_refusal file lent_here) where
    run_sound : sound words speeds ≡ true
    unfolding run_refusal
    run_sound = not-false _ (row_passed _ _ _ (sym z))

    -- n is read where the code reads it
    pub run_fits : let n = get_or words 1 0 in (run_refusal file lent_here ≡ 0) × RowReady words speeds n × AcceptedSurvey n file
    unfolding run_refusal
    run_fits =
        let size = sym (size_word words) in (
          sym z,
          row_sized size run_sound,
          survey_accepted (get_or words 1 0) file (ap (λ (m : ℕ). survey_number m file) size ∙ row_later _ _ _ (sym z)),
        )

    pub run_done : {answer : Answer} {words' : List ℕ} {speeds' : List Float} → let o = run_rows perform 0 (rows_in file) lent_here in
        answer ≡ o.answer → words' ≡ o.state.words → speeds' ≡ o.state.speeds → Gives (perform_run file lent_here) answer words' speeds'
    unfolding perform_run
    run_done p q r =
        rw (unless-accepted (run_refusal file lent_here) lent_here (run_rows perform 0 (rows_in file) lent_here) (sym z))
        (record { answers = p; words_are = q; speeds_are = r })

pub ruleset run_call = (run_refused, run_fits, run_done)
