-- The rows of each call on a study, in their order, as its function asks them; a step's are in Stepping.
use Prim.Native.Nat.{ℕ, ◌-◌}
use mathlib.Core.Path.{◌≡◌, refl, sym, ap, ◌∙◌}
use mathlib.Core.Bool.{Bool, true, false, not, ◌||◌}
use mathlib.Core.List.{List}
use lib.Dec.{ltb, eqb}
use lib.IntN.{ℤ}
use lib.ListN.{get_or}
use lib.Ieee.{Float}
use Rattle.laws.specs.First.{row, first, outside}
use Rattle.laws.proofs.First.{row_applies, row_first, first_some, first_zero, first_first}
use Rattle.format.specs.Network.{network_from, segment_of}
use Rattle.survey_file.specs.File.{survey_number}
use Rattle.metanet.specs.declared.Setting.{Setting}
use Rattle.metanet.specs.Change.{sign_refused, setting_refused}
use Rattle.metanet.specs.Line.{signed, metered}
use Rattle.metanet.specs.Step.{ramp_at}
use Rattle.book.specs.Arrangement.{slots, network_at, size_at, filled_at}
use Rattle.book.specs.Sound.{sound}
use Rattle.book.specs.Calls.{item, hold, recall, question}
use Rattle.book.specs.Question.{CaseQuestion, question_number, segment_missing, totals, segment, drain, of_case}
use Rattle.book.specs.Refusal.{refusal, item_number, slot_refusal, question_refusal}
use Rattle.book.specs.Perform.{lent, refusal_at}
use Rattle.book.specs.Run.{run_refusal}
use Rattle.book.proofs.Network.{size_word}

-- rows, and then later ones
three_first : (a b c : Bool) (m : ℕ) → row a 12 (row b 21 (row c 23 m)) ≡ first (row a 12 (row b 21 (row c 23 0))) m
unfolding row first
three_first true b c m = refl
three_first false true c m = refl
three_first false false true m = refl
three_first false false false m = refl

module _ (words : List ℕ) (speeds : List Float) where
  pub sign_rows : (i limit : ℕ) (compliance : ℤ) → refusal_at (item (signed i limit compliance)) (lent words speeds)
      ≡ row (not (sound words speeds)) 12 (row (outside 1 i (size_at words)) 17 (row (sign_refused limit compliance) 18 0))
  unfolding refusal_at refusal item_number network_from
  sign_rows i limit compliance = refl

  pub meter_rows : (i : ℕ) (setting : Setting) → refusal_at (item (metered i setting)) (lent words speeds)
      ≡ row (not (sound words speeds)) 12
      (row (outside 1 i (size_at words)) 17
      (row (not (ramp_at (network_at words) (i - 1))) 19
      (row (setting_refused (segment_of (network_at words) (i - 1)).most setting) 20 0)))
  unfolding refusal_at refusal item_number network_from
  meter_rows i setting = refl

  pub hold_rows : (k : ℕ) → refusal_at (hold k) (lent words speeds)
      ≡ row (not (sound words speeds)) 12 (row (outside 1 k slots) 21 (row (filled_at words k) 22 0))
  unfolding refusal_at refusal
  hold_rows k = refl

  pub recall_rows : (k : ℕ) → refusal_at (recall k) (lent words speeds)
      ≡ row (not (sound words speeds)) 12 (row (outside 1 k slots) 21 (row (not (filled_at words k)) 23 0))
  unfolding refusal_at refusal slot_refusal
  recall_rows k = refl

  pub question_rows : (k : ℕ) (q : CaseQuestion) → refusal_at (question (of_case k q)) (lent words speeds)
      ≡ row (not (sound words speeds)) 12 (row (ltb slots k) 21 (row (not (eqb k 0 || filled_at words k)) 23 (question_number (network_at words) q)))
  unfolding refusal_at refusal question_refusal
  question_rows k q = refl

  -- the totals have no row of their own
  pub case_rows : (k : ℕ) → refusal_at (question (of_case k totals)) (lent words speeds)
      ≡ row (not (sound words speeds)) 12 (row (ltb slots k) 21 (row (not (eqb k 0 || filled_at words k)) 23 0))
  unfolding question_number
  case_rows k = question_rows k totals

  -- ---- any question about case k: the rows of "which case", then its own

  module _ (k : ℕ) where
    -- the rows before a question's own, of which totals has none
    abbrev which_case : ℕ
    which_case = refusal_at (question (of_case k totals)) (lent words speeds)

    module _ (q : CaseQuestion) where
      abbrev asked : ℕ
      asked = refusal_at (question (of_case k q)) (lent words speeds)

      pub asked_is : asked ≡ first which_case (question_number (network_at words) q)
      unfolding refusal_at refusal question_refusal question_number
      asked_is = three_first (not (sound words speeds)) (ltb slots k) (not (eqb k 0 || filled_at words k)) (question_number (network_at words) q)

      pub question_case : {r : ℕ} → r ≡ which_case → (r ≡ 0 → ⊥) → r ≡ asked
      question_case e some = e ∙ sym (asked_is ∙ first_some _ _ (λ z. some (e ∙ z)))

      pub question_judged : {r : ℕ} → which_case ≡ 0 → r ≡ question_number (network_at words) q → r ≡ asked
      question_judged z e = e ∙ sym (asked_is ∙ first_zero _ _ z)

    -- a question whose own rows are those of another, and then later ones
    pub rows_after : (q further : CaseQuestion) (later : ℕ) → question_number (network_at words) further ≡ first (question_number (network_at words) q) later
        → asked further ≡ first (asked q) later
    rows_after q further later e =
        asked_is further ∙ ap (first which_case) e ∙ sym (first_first which_case _ later) ∙ ap (λ (m : ℕ). first m later) (sym (asked_is q))

    -- the segment asked for
    module _ (i : ℕ) where
      abbrev missing : Bool
      missing = outside 1 i (get_or words 1 0)

      pub segment_row : question_number (network_at words) (segment i) ≡ row missing 17 0
      unfolding question_number network_from
      segment_row = ap (λ (n : ℕ). row (outside 1 i n) 17 0) (size_word words)

      pub segment_none : which_case ≡ 0 → missing ≡ true → 17 ≡ asked (segment i)
      segment_none z e = question_judged (segment i) z (sym (segment_row ∙ row_applies _ _ _ e))

  -- a segment of a case: after the rows of the case
  pub segment_rows : (k i : ℕ) → refusal_at (question (of_case k (segment i))) (lent words speeds)
      ≡ first (refusal_at (question (of_case k totals)) (lent words speeds)) (row (outside 1 i (size_at words)) 17 0)
  unfolding question_number network_from
  segment_rows k i = asked_is k (segment i)

  -- the drain of its queue: after the rows of the segment
  pub drain_rows : (k i : ℕ) → refusal_at (question (of_case k (drain i))) (lent words speeds)
      ≡ first (refusal_at (question (of_case k (segment i))) (lent words speeds)) (row (not (ramp_at (network_at words) (i - 1))) 19 0)
  unfolding question_number network_from
  drain_rows k i = rows_after k (segment i) (drain i) _ (row_first (segment_missing (network_at words) i) 16 _)

  -- a run: 12, then 25 and 26
  pub run_rows : (file : List ℕ) → run_refusal file (lent words speeds) ≡ row (not (sound words speeds)) 12 (survey_number (get_or words 1 0) file)
  unfolding run_refusal
  run_rows file = ap (λ (n : ℕ). row (not (sound words speeds)) 12 (survey_number n file)) (size_word words)

pub ruleset table_rows = (sign_rows, meter_rows, hold_rows, recall_rows, case_rows, segment_rows, drain_rows, run_rows)
