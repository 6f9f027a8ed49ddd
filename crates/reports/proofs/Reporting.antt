-- Which row refuses a question about a case, and that the figures read in the words are those of the case.
use Rattle.std.proofs.Common.{◌≡◌, ℕ, ◌+◌, ◌-◌, ◌*◌, Option, ◌<◌, ◌≤◌, not, T, List, [], ◌∷◌, length, get_or, drop, Ok, sym, refl, ap, ◌∙◌, le_trans, le_of_eq, arith, lit<, get_or-drop}
use lib.Ieee.{Float, nan, inf, fin, is_nan, lt}
use Rattle.laws.specs.Sums.{sum_of}
use Rattle.laws.proofs.Reals.{Truncates}
use Rattle.laws.proofs.Sums.{sum_ext}
use Rattle.format.specs.declared.Head.{Head}
use Rattle.format.specs.declared.Segment.{Segment}
use Rattle.format.specs.Network.{segment_of}
use Rattle.format.specs.Words.{entry_in, segment_in}
use Rattle.metanet.specs.declared.SegmentState.{SegmentState}
use Rattle.metanet.specs.Case.{state_of}
use Rattle.metanet.specs.Words.{net_of, state_in, state_at, states_in, case_in}
use Rattle.metanet.proofs.Ready.{StateOk, CaseAt}
use Rattle.metanet.proofs.InWords.{case_number_in}
use Rattle.metanet.proofs.SegmentLaws.{segment_ok, truncating_speed}
use Rattle.metanet.proofs.SoundLaws.{state_read, case_state}
use Rattle.book.specs.declared.CaseFigures.{CaseFigures}
use Rattle.book.specs.declared.SegmentFigures.{SegmentFigures}
use Rattle.book.specs.Arrangement.{case_word, case_speed, network_at, size_at, case_at}
use Rattle.metanet.specs.Report.{case_figures, segment_figures}
use Rattle.metanet.specs.Sound.{mv_most}
use Rattle.metanet.specs.Drain.{DrainTime, drain_time, time_figures, drain_figures}
use Rattle.case_words.specs.Sums.{figure_at, Summable}
use Rattle.reports.specs.Figures.{figures_at, state_figures, figures_there, Showable}
use Rattle.refusal.specs.Ready.{Reportable}
use Rattle.book.proofs.Judging.{placed, size_high, case_judged}
use Rattle.book.proofs.Network.{head_kept, segment_kept}
use Rattle.book.specs.Calls.{question}
use Rattle.book.specs.Perform.{lent, refusal_at, stored, answer_of, Performs}
use Rattle.book.specs.Question.{CaseQuestion, totals, segment, drain, of_case, case_says, segment_says, time_of, drain_says, figures_for, figures_asked, figures, Answer}
use Rattle.book.proofs.Performing.{refused_call, accepts}
use Rattle.refusal.proofs.Asking.{reportable, segment_low, segment_high, drain-taken}

-- ---- the figures

is_a_number : (v : Float) → Truncates v → T (not (is_nan v))
unfolding is_nan lt
is_a_number nan t = absurd t.above
is_a_number (inf s) t = tt
is_a_number (fin s m e) t = tt

-- figure o of state i is read in the state's words
figure_read : (words : List ℕ) (at o i : ℕ) → figure_at words at o i ≡ get_or (drop (at + 16 * i) words) o 0
figure_read words at o i = sym (get_or-drop (at + 16 * i) words o 0)

module _ (words : List ℕ) (speeds : List Float) (at from n : ℕ) where
  counts_sum : sum_of (figure_at words at 0) n ≡ sum_of (λ i. (state_of (states_in words speeds at from n) i).count) n
  unfolding state_in
  counts_sum = sum_ext _ _ n (λ i l. figure_read words at 0 i ∙ ap (λ (r : SegmentState). r.count) (sym (state_read words speeds at from n i l)))

  queues-sum : sum_of (figure_at words at 1) n ≡ sum_of (λ i. (state_of (states_in words speeds at from n) i).queue) n
  unfolding state_in
  queues-sum = sum_ext _ _ n (λ i l. figure_read words at 1 i ∙ ap (λ (r : SegmentState). r.queue) (sym (state_read words speeds at from n i l)))

module _ {words : List ℕ} {speeds : List Float} {n k : ℕ} (p : Reportable words speeds n k) where
  abbrev at : ℕ
  at = case_word n k

  abbrev from : ℕ
  from = case_speed n k

  place : CaseAt words speeds at from n
  place = placed p.laid k p.high

  zeroed : case_number_in words speeds at from n ≡ 0
  zeroed = case_judged p.laid k ∙ p.sound

  state_of_lem : (i : ℕ) → i < n → StateOk (segment_in (net_of words) i) (entry_in (net_of words) (segment_in (net_of words) i).curve 0) (state_at words speeds at from i)
  state_of_lem = case_state place zeroed

  -- what stands where
  pub case_placed : (n ≤ 40) × (k ≤ 6) × (2560 ≤ length words) × (at + 16 * n + 8 ≤ length words) × (from + n ≤ length speeds)
  case_placed = (size_high p.laid, p.high, omega (arith, p.laid.room), place.room, place.speed_room)

  -- a speed can be shown
  pub showable : (i : ℕ) {r : SegmentState} → r ≡ state_at words speeds at from i → i < n → Showable r.speed
  showable i e l =
      let t = truncating_speed (segment_ok p.laid.net i (omega (arith, p.laid.size))) (state_of_lem i l).flowing.speed in
      rw e (record { above = t.above; under = t.under; number = is_a_number _ t })

  pub counts_summable : Summable words at 0 n
  unfolding state_in
  counts_summable =
      record {
        many = size_high p.laid;
        room = place.room;
        inside = lit< tt;
        high = λ i l. le_trans (le_of_eq (figure_read words at 0 i)) (state_of_lem i l).count;
      }

  pub queues_summable : Summable words at 1 n
  unfolding state_in
  queues_summable =
      record {
        many = size_high p.laid;
        room = place.room;
        inside = lit< tt;
        high = λ i l. le_trans (le_of_eq (figure_read words at 1 i)) (state_of_lem i l).queue;
      }

  -- the figures of the case
  pub case_shown : case_says (Ok (figures_at words at n)) ≡ figures (case_figures (network_at words) (case_at words speeds k))
  unfolding figures_at case_figures case_in
  case_shown =
      (λ j. figures (
      get_or words (at + 16 * n) 0
      ∷ counts_sum words speeds at from n j
      ∷ queues-sum words speeds at from n j
      ∷ get_or words (at + 16 * n + 1) 0 ∷ get_or words (at + 16 * n + 2) 0 ∷ get_or words (at + 16 * n + 3) 0
      ∷ []))
      ∙ ap (λ (m : ℕ). shown m m) p.laid.size
      ∙ ap (λ (h : Head). shown (size_at words) h.size) (sym (head_kept (net_of words)))
    where
      -- of the case of m segments, whose sums go over the first t of them
      shown : ℕ → ℕ → Answer
      shown m t =
          let c = case_in words speeds (case_word m k) (case_speed m k) m in
          figures (c.steps ∷ sum_of (λ i. (state_of c.states i).count) t ∷ sum_of (λ i. (state_of c.states i).queue) t ∷ c.arrivals ∷ c.exits ∷ c.time ∷ [])

  module _ (i : ℕ) (l : i < n) where
    abbrev read : SegmentFigures
    read = state_figures (segment_in (net_of words) i) (state_at words speeds at from i)

    -- whatever is made of segment i and its state as they are read is made of those of the case
    of_case_lem : {A : Type 0} (f : Segment → SegmentState → A)
        → f (segment_in (net_of words) i) (state_at words speeds at from i) ≡ f (segment_of (network_at words) i) (state_of (case_at words speeds k).states i)
    unfolding case_in
    of_case_lem f =
        (λ j. f (sym (segment_kept (net_of words) i (omega (arith, p.laid.size, l))) j) (sym (state_read words speeds at from n i l) j))
        ∙ ap (λ (m : ℕ). f (segment_of (network_at words) i) (state_of (states_in words speeds (case_word m k) (case_speed m k) m) i)) p.laid.size

    -- the figures of segment i
    pub segment_shown : segment_says (Ok read) ≡ figures (segment_figures (network_at words) (case_at words speeds k) i)
    unfolding state_figures segment_figures
    segment_shown = of_case_lem (λ s r. segment_says (Ok (state_figures s r)))

    -- how long its queue takes to drain
    pub drain_shown : time_figures (drain_time read.rate read.queue) ≡ drain_figures (network_at words) (case_at words speeds k) i
    unfolding state_figures drain_figures
    drain_shown = of_case_lem (λ s r. time_figures (drain_time (state_figures s r).rate r.queue))

    pub queue_high : read.queue ≤ mv_most
    unfolding state_figures
    queue_high = (state_of_lem i l).queue

-- what its figures need
pub ruleset case_read = (case_placed, counts_summable, queues_summable)

-- ---- a question about case k that is accepted

module _ (words : List ℕ) (speeds : List Float) (k : ℕ) where
  module _ (q : CaseQuestion) (is : 0 ≡ refusal_at (question (of_case k q)) (lent words speeds)) where
    pub case_taken : Reportable words speeds (get_or words 1 0) k
    case_taken = reportable words speeds k q (sym is)

    answers_it : {answer : Answer} → answer ≡ figures (figures_for q (network_at words) (case_at words speeds k)) → Performs (question (of_case k q)) words speeds answer words speeds
    unfolding answer_of figures_asked stored
    answers_it said = accepts (question (of_case k q)) words speeds (sym is) said refl refl

  -- the report of the case
  pub case_answered : 0 ≡ refusal_at (question (of_case k totals)) (lent words speeds) → (f : CaseFigures) → f ≡ figures_at words (case_word (get_or words 1 0) k) (get_or words 1 0)
      → Performs (question (of_case k totals)) words speeds (case_says (Ok f)) words speeds
  unfolding figures_for
  case_answered is f read =
      answers_it totals is (ap (λ (g : CaseFigures). case_says (Ok g)) read ∙ case_shown (case_taken totals is))

  module _ (i : ℕ) where
    abbrev read_there : SegmentFigures
    read_there = figures_there words speeds k (i - 1)

    -- the report of segment i
    module _ (is : 0 ≡ refusal_at (question (of_case k (segment i))) (lent words speeds)) where
      pub segment_there : (1 ≤ i) × (i ≤ get_or words 1 0)
      segment_there = (segment_low words speeds k i (sym is), segment_high words speeds k i (sym is))

      segment_inside : i - 1 < get_or words 1 0
      segment_inside = omega (arith, segment_there)

      pub segment_answered : (f : SegmentFigures) → f ≡ read_there → Performs (question (of_case k (segment i))) words speeds (segment_says (Ok f)) words speeds
      unfolding figures_for
      segment_answered f read =
          answers_it (segment i) is (ap (λ (g : SegmentFigures). segment_says (Ok g)) read ∙ segment_shown (case_taken (segment i) is) (i - 1) segment_inside)

    -- how long its queue takes to drain: the report of the segment would be given
    module _ (is : 0 ≡ refusal_at (question (of_case k (drain i))) (lent words speeds)) where
      reported : 0 ≡ refusal_at (question (of_case k (segment i))) (lent words speeds)
      reported = sym (drain-taken words speeds k i (sym is))

      pub drain_there : (1 ≤ i) × (i ≤ get_or words 1 0)
      drain_there = segment_there reported

      pub drain_queue : read_there.queue ≤ mv_most
      drain_queue = queue_high (case_taken (segment i) reported) (i - 1) (segment_inside reported)

      pub drain_answered : (f : SegmentFigures) (t : Option ℕ) → time_of t ≡ drain_time f.rate f.queue → f ≡ read_there
          → Performs (question (of_case k (drain i))) words speeds (drain_says (Ok t)) words speeds
      unfolding figures_for
      drain_answered f t said read =
          answers_it (drain i) is
          (ap (λ (x : DrainTime). figures (time_figures x)) (said ∙ ap (λ (g : SegmentFigures). drain_time g.rate g.queue) read)
          ∙ ap figures (drain_shown (case_taken (segment i) reported) (i - 1) (segment_inside reported)))

-- what each question's function needs
pub ruleset asked_case = (refused_call, case_taken, case_answered)

pub ruleset asked_segment = (refused_call, case_taken, segment_there, segment_answered)

pub ruleset asked_drain = (refused_call, case_taken, drain_there, drain_queue, drain_answered)
