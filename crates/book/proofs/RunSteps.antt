-- A run is as many Step calls.
use Prim.Native.Nat.{ℕ, zero, suc, ◌+◌}
use mathlib.Core.Path.{◌≡◌, refl, sym, ap, ◌∙◌}
use mathlib.Core.List.{List, [], ◌∷◌}
use native.Mathlib.Nat.{suc-ne-zero}
use native.Mathlib.Omega.{arith}
use Rattle.survey_file.specs.File.{rows_in}
use Rattle.book.specs.Question.{Answer, refused, accepted, figures, number_of}
use Rattle.book.specs.Perform.{Arrays, Outcome, unless, refusal_at, answer_of, perform, after, answers}
use Rattle.book.specs.Run.{unless_stopped, step_call, run_rows, run_refusal, perform_run, AsSteps, RunIsSteps}
use Rattle.book.proofs.Sim.{on_arrays}

-- ---- what a Step answers

abbrev verdict : ℕ → Answer
verdict zero = accepted
verdict (suc m) = refused (suc m)

unless_verdict : {S : Type 0} (m : ℕ) (s : S) (o : Outcome S) → o.answer ≡ accepted → (unless m s o).answer ≡ verdict (number_of (unless m s o).answer)
unfolding unless
unless_verdict zero s o e = rw e
unless_verdict (suc m) s o e = refl

step_verdict : (r : List ℕ) (a : Arrays) → (perform (step_call r) a).answer ≡ verdict (number_of (perform (step_call r) a).answer)
unfolding perform answer_of
step_verdict r a = unless_verdict (refusal_at (step_call r) a) a (on_arrays (step_call r) a) refl

-- ---- rows, of which k were taken before

abbrev RowsAre : ℕ → List (List ℕ) → Arrays → Outcome Arrays → Type 0
RowsAre k rows a o = (i : ℕ) × (m : ℕ) × (o.answer ≡ figures ((k + i) ∷ m ∷ [])) × AsSteps rows a o.state i m

module _ (r : List ℕ) (rows : List (List ℕ)) (k : ℕ) (a : Arrays) (later : Outcome Arrays) where
  row_then : (n : ℕ) → (perform (step_call r) a).answer ≡ verdict n → RowsAre (k + 1) rows (perform (step_call r) a).state later
      → RowsAre k (r ∷ rows) a (unless_stopped n k a later)
  unfolding unless_stopped answers after
  row_then zero e (i, m, answered, is) = (
    suc i,
    m,
    answered ∙ ap (λ (x : ℕ). figures (x ∷ m ∷ [])) (omega arith),
    record {
      all_accepted = λ j. e j ∷ is.all_accepted j;
      same_arrays = is.same_arrays;
      ended = λ z. ap suc (is.ended z);
      stopped = λ n. let p = is.stopped n in (omega (arith, p.0), p.1);
    },
  )
  row_then (suc n) e rest = (
    0,
    suc n,
    ap (λ (x : ℕ). figures (x ∷ suc n ∷ [])) (omega arith),
    record {
      all_accepted = refl;
      same_arrays = refl;
      ended = λ z. absurd (suc-ne-zero n z);
      stopped = λ some. (omega arith, e);
    },
  )

rows_are : (rows : List (List ℕ)) (k : ℕ) (a : Arrays) → RowsAre k rows a (run_rows perform k rows a)
unfolding run_rows answers after
rows_are [] k a = (
  0,
  0,
  ap (λ (x : ℕ). figures (x ∷ 0 ∷ [])) (omega arith),
  record { all_accepted = refl; same_arrays = refl; ended = λ z. refl; stopped = λ n. absurd (n refl) },
)
rows_are (r ∷ rows) k a =
    row_then r rows k a (run_rows perform (k + 1) rows (perform (step_call r) a).state) (number_of (perform (step_call r) a).answer) (step_verdict r a)
    (rows_are rows (k + 1) (perform (step_call r) a).state)

-- ---- a run

pub run_is_steps : RunIsSteps
unfolding perform_run unless
run_is_steps file a k m e = go (run_refusal file a) e
  where
    o : Outcome Arrays
    o = run_rows perform 0 (rows_in file) a

    same : (i n : ℕ) → figures ((0 + i) ∷ n ∷ []) ≡ figures (k ∷ m ∷ []) → AsSteps (rows_in file) a o.state i n → AsSteps (rows_in file) a o.state k m
    same i n e is =
        let p : 0 + i ≡ k = cc in
        let q : n ≡ m = cc in
        let first : i ≡ k = omega (arith, p) in
        rw (← first, ← q) is

    go : (n : ℕ) → (unless n a o).answer ≡ figures (k ∷ m ∷ []) → AsSteps (rows_in file) a (unless n a o).state k m
    go zero f = let (i, n, answered, is) = rows_are (rows_in file) 0 a in same i n (sym answered ∙ f) is
    go (suc n) f = let never : suc n ≡ 0 = cc in absurd (suc-ne-zero n never)
