-- Questions to a study, which change nothing, and what calls answer.
use Rattle.std.specs.Prelude.{ℕ, ◌-◌, Bool, not, List, [], ◌∷◌, Option, Some, None, Result, Ok, Err}
use Rattle.laws.specs.First.{outside, row}
use Rattle.laws.specs.declared.Refusal.{Refusal}
use Rattle.laws.specs.Refusal.{number}
use Rattle.format.specs.Network.{Network}
use Rattle.metanet.specs.Case.{Case}
use Rattle.metanet.specs.Step.{ramp_at}
use Rattle.metanet.specs.Report.{case_figures, segment_figures}
use Rattle.metanet.specs.Drain.{DrainTime, never, in_steps, time_figures, drain_figures}
use Rattle.book.specs.declared.CaseFigures.{CaseFigures}
use Rattle.book.specs.declared.SegmentFigures.{SegmentFigures}

-- about a case: its totals (Report), one named segment (a segment report), or how long the queue of a ramp takes to drain
pub data CaseQuestion : Type 0 where
  totals : CaseQuestion
  segment : ℕ → CaseQuestion
  drain : ℕ → CaseQuestion

-- about case 0 (live) or 1..6, or the run count
pub data Question : Type 0 where
  of_case : ℕ → CaseQuestion → Question
  run_count : Question

-- ---- its own rows, after those of "which case", 21 and 23

-- 17 segment outside 1..n
abbrev pub segment_missing : Network → ℕ → Bool
segment_missing w i = outside 1 i w.head.size

-- 19 no segment before it, or no origin
abbrev pub ramp_missing : Network → ℕ → Bool
ramp_missing w i = not (ramp_at w (i - 1))

unfoldable pub question_number : Network → CaseQuestion → ℕ
question_number w totals = 0
question_number w (segment i) = row (segment_missing w i) 17 0
question_number w (drain i) = row (segment_missing w i) 17 (row (ramp_missing w i) 19 0)

-- ---- its figures, of the network, the cases by number and the run count

unfoldable pub figures_for : CaseQuestion → Network → Case → List ℕ
unfolding case_figures segment_figures drain_figures
figures_for totals w c = case_figures w c
figures_for (segment i) w c = segment_figures w c (i - 1)
figures_for (drain i) w c = drain_figures w c (i - 1)

unfoldable pub figures_asked : Question → Network → (ℕ → Case) → ℕ → List ℕ
unfolding figures_for
figures_asked (of_case k q) w cases runs = figures_for q w (cases k)
figures_asked run_count w cases runs = runs ∷ []

-- ---- answers: the number that refused a call, or that it was accepted, or the figures asked for

pub data Answer : Type 0 where
  refused : ℕ → Answer
  accepted : Answer
  figures : List ℕ → Answer

-- the number that refused a call, or 0
abbrev pub number_of : Answer → ℕ
number_of = elim [ refused number ↦ number | accepted ↦ 0 | figures xs ↦ 0 ]

-- what a function's answer says: the number of the refusal, or what its value says
abbrev pub says : {A : Type 0} → (A → Answer) → Result A Refusal → Answer
says value_says (Err why) = refused (number why)
says value_says (Ok x) = value_says x

-- of a call that is no question
abbrev pub verdict_says : Result (Unit {0}) Refusal → Answer
verdict_says = says (λ _. accepted)

-- steps, mv in segments, in queues, arrivals, exits, time
abbrev pub case_says : Result CaseFigures Refusal → Answer
case_says = says (λ f. figures (f.steps ∷ f.segments ∷ f.queues ∷ f.arrivals ∷ f.exits ∷ f.time ∷ []))

-- N, s, bits of v, w, last outflow, last release, R
abbrev pub segment_says : Result SegmentFigures Refusal → Answer
segment_says = says (λ f. figures (f.count ∷ f.whole ∷ f.bits ∷ f.queue ∷ f.outflow ∷ f.release ∷ f.rate ∷ []))

-- how long a queue takes to drain: never, or in so many steps
abbrev pub time_of : Option ℕ → DrainTime
time_of None = never
time_of (Some k) = in_steps k

-- 1 where it never drains, else 0; the steps, 0 where it never does
abbrev pub drain_says : Result (Option ℕ) Refusal → Answer
drain_says = says (λ t. figures (time_figures (time_of t)))

-- a run count, or how many bytes are written
abbrev pub count_says : Result ℕ Refusal → Answer
count_says = says (λ n. figures (n ∷ []))
