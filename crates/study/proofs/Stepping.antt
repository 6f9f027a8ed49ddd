-- A step of the live case, and a row of arrivals taken as one.
use Prim.Native.Nat.{ℕ, ◌+◌, ◌*◌, ◌≤◌, ◌<◌}
use mathlib.Core.Path.{◌≡◌, refl, sym, ap, ◌∙◌, subst}
use mathlib.Core.Bool.{true}
use mathlib.Core.List.{List, ◌++◌}
use native.Mathlib.Omega.{arith}
use lib.ListN.{length, get_or, set, take}
use lib.Seq.{take_at}
use lib.Ieee.{Float}
use Rattle.laws.specs.declared.Refusal.{Refusal}
use Rattle.laws.specs.Refusal.{number}
use Rattle.laws.specs.Lists.{table}
use Rattle.laws.specs.Sums.{sum_of}
use Rattle.laws.proofs.Lists.{length-table}
use Rattle.laws.proofs.Sums.{sum_term}
use Rattle.survey_file.specs.File.{rows_on, arrival_on, row_on}
use Rattle.survey_file.proofs.Accepted.{AcceptedSurvey, row_is, row_within}
use Rattle.metanet.specs.Line.{stepped}
use Rattle.metanet.proofs.InWords.{step_case_words, step_case_speeds}
use Rattle.metanet.proofs.Ready.{Ready, TotalsOk, vehicles_at}
use Rattle.book.specs.Arrangement.{size_at}
use Rattle.book.specs.Question.{accepted}
use Rattle.book.specs.Calls.{item}
use Rattle.book.specs.Sound.{sound}
use Rattle.book.specs.Perform.{Arrays, Outcome, lent, refusal_at, stored, answer_of, perform, Performs}
use Rattle.book.proofs.Performing.{unless-accepted, refused_call, accepts, accepted-sound}
use Rattle.book.proofs.Rows.{RowReady, row_next, row_sized, row_vehicles}
use Rattle.book.proofs.Sounds.{laid}
use Rattle.refusal.proofs.Stepping.{runs_left, step_ready, step_totals}
use Rattle.study.specs.Rows.{RowTaken}
use Rattle.study.proofs.Changing.{step_stored, step_speeds_stored}

module _ (words : List ℕ) (speeds : List Float) (ds : List ℕ) where
  -- ---- what nothing refuses
  module _ (taken : refusal_at (item (stepped ds)) (lent words speeds) ≡ 0) where
    is_sound : sound words speeds ≡ true
    is_sound = accepted-sound (item (stepped ds)) words speeds refl taken

    pub step_room : (refusal_at (item (stepped ds)) (lent words speeds) ≡ 0) × (2576 ≤ length words) × (get_or words 2560 0 < 1000000)
    step_room = (taken, omega (arith, (laid words speeds is_sound).room), runs_left words speeds ds is_sound taken)

    abbrev n : ℕ
    n = length ds

    pub size : n ≡ size_at words
    size = (step_ready words speeds ds is_sound taken refl).arrivals

    pub ready_to_step : Ready words speeds ds 2576 0 n
    ready_to_step = step_ready words speeds ds is_sound taken size

    pub totals_to_step : TotalsOk words (2576 + 16 * n)
    totals_to_step = step_totals words speeds ds is_sound taken size

    pub step_words_done : {words' : List ℕ} → words' ≡ step_case_words words speeds 2576 0 n ds
        → set words' 2560 (get_or words 2560 0 + 1) ≡ (stored (item (stepped ds)) (lent words speeds)).words
    step_words_done e = ap (λ (l : List ℕ). set l 2560 (get_or words 2560 0 + 1)) e ∙ sym (step_stored words speeds ds is_sound taken size)

    pub step_speeds_done : step_case_speeds words speeds 2576 0 n ds ≡ (stored (item (stepped ds)) (lent words speeds)).speeds
    step_speeds_done = sym (step_speeds_stored words speeds ds is_sound taken size)

  -- ---- Step
  module _ (taken : 0 ≡ refusal_at (item (stepped ds)) (lent words speeds)) where
    ready : RowReady words speeds (length ds)
    ready = row_sized (size (sym taken)) (is_sound (sym taken))

    pub step_fits : let n = length ds in (refusal_at (item (stepped ds)) (lent words speeds) ≡ 0)
        × (n ≤ 40) × (2576 + 16 * n ≤ length words) × ((i : ℕ) → i < n → vehicles_at words 2576 i ≤ 2000000000000)
    step_fits = let v = row_vehicles ready in (sym taken, v.0.0, v.0.1, v.1)

    pub step_done : {words' : List ℕ} {speeds' : List Float} → words' ≡ (stored (item (stepped ds)) (lent words speeds)).words
        → speeds' ≡ (stored (item (stepped ds)) (lent words speeds)).speeds → Performs (item (stepped ds)) words speeds accepted words' speeds'
    unfolding answer_of
    step_done p q = accepts (item (stepped ds)) words speeds (sym taken) refl p q

    -- ---- a row of a run
    pub row_done : {words' : List ℕ} {speeds' : List Float} → words' ≡ (stored (item (stepped ds)) (lent words speeds)).words
        → speeds' ≡ (stored (item (stepped ds)) (lent words speeds)).speeds → RowTaken words speeds ds 0 words' speeds'
    row_done p q = let g = step_done p q in record { number = taken; words_are = g.words_are; speeds_are = g.speeds_are }

  pub row_refused : (why : Refusal) → number why ≡ refusal_at (item (stepped ds)) (lent words speeds) → RowTaken words speeds ds (number why) words speeds
  row_refused why e =
      let g = refused_call (item (stepped ds)) words speeds why e in
      record { number = e; words_are = g.words_are; speeds_are = g.speeds_are }

pub vehicles_few : (words : List ℕ) (n : ℕ) → sum_of (vehicles_at words 2576) n ≤ 2000000000000
    → (sum_of (vehicles_at words 2576) n ≤ 2000000000000) × ((i : ℕ) → i < n → vehicles_at words 2576 i ≤ 2000000000000)
vehicles_few words n few = (few, λ i l. omega (arith, sum_term (vehicles_at words 2576) n i l))

-- the next row meets what this one met
pub ready_next : {words : List ℕ} {speeds : List Float} {n : ℕ} {m : ℕ} {words' : List ℕ} {speeds' : List Float} (ds : List ℕ) → RowReady words speeds n
    → RowTaken words speeds ds m words' speeds' → 0 ≡ m → RowReady words' speeds' n
unfolding perform
ready_next {words} {speeds} ds r t none =
    let a = lent words speeds in
    let c = item (stepped ds) in
    let z = sym (none ∙ t.number) in
    let is : (perform c a).state ≡ stored c a = ap (λ (o : Outcome Arrays). o.state) (unless-accepted (refusal_at c a) a _ z) in
    rw (t.words_are, t.speeds_are, is) (row_next ds r z)

-- row k of a file was read into the first n places, and these were taken
pub row_taken : {b : List ℕ} {n : ℕ} {words : List ℕ} {speeds : List Float} {r : ℕ} {words' : List ℕ} {speeds' : List Float} (k : ℕ) {read : List ℕ} (rest : List ℕ)
    → AcceptedSurvey n b → read ≡ table (λ i. arrival_on b (k * n + i)) n ++ rest → RowTaken words speeds (take n read) r words' speeds' → RowTaken words speeds (row_on b k) r words' speeds'
row_taken {b} {n} {words} {speeds} {r} {words'} {speeds'} k {read} rest a e t =
    let row = table (λ i. arrival_on b (k * n + i)) n in
    let first_are : take n read ≡ row_on b k = ap (take n) e ∙ take_at row rest n (length-table _ n) ∙ row_is b a.size_is k in
    subst (λ (ds : List ℕ). RowTaken words speeds ds r words' speeds') first_are t

pub row_fits : (b : List ℕ) (n k : ℕ) → AcceptedSurvey n b → k < rows_on b → (8 + 4 * (k * n + n) ≤ length b) × (n ≤ 40)
row_fits b n k a more = (row_within a k more, a.size_high)

pub ruleset accepted_step = (step_room, ready_to_step, totals_to_step, step_words_done, step_speeds_done)

pub ruleset step_call = (refused_call, step_fits, step_done)

pub ruleset row_step = (row_refused, row_done, vehicles_few)
