-- What acceptance of a question about a case says.
use Prim.Native.Nat.{ℕ, ◌≤◌}
use mathlib.Core.Path.{◌≡◌, refl, sym, ◌∙◌, subst}
use mathlib.Core.Bool.{true, false, ◌||◌, not}
use mathlib.Core.List.{List}
use native.Mathlib.Omega.{arith}
use lib.Dec.{ltb, eqb}
use lib.ListN.{length, length-take, get_or}
use lib.Ieee.{Float}
use borrow.Author.Tests.{ltb-false, not-false}
use Rattle.laws.specs.First.{outside, row}
use Rattle.laws.proofs.First.{row_passed, row_later, first_zero_left}
use Rattle.laws.proofs.Tests.{inside_low, inside_high}
use Rattle.format.specs.Network.{network_from}
use Rattle.format.specs.Words.{head_in}
use Rattle.format.proofs.Accepted.{SegmentsKept}
use Rattle.format.proofs.Keeping.{segments_kept}
use Rattle.metanet.specs.Words.{net_of}
use Rattle.book.specs.Arrangement.{network_at, size_at, filled_at}
use Rattle.book.specs.Sound.{sound}
use Rattle.book.specs.Calls.{question}
use Rattle.book.specs.Question.{question_number, CaseQuestion, of_case, segment, drain}
use Rattle.book.specs.Perform.{lent, refusal_at}
use Rattle.book.proofs.Laid.{Laid}
use Rattle.book.proofs.Network.{size_word}
use Rattle.book.proofs.Performing.{accepted-sound}
use Rattle.book.proofs.Sounds.{laid, case_sound}
use Rattle.refusal.specs.Ready.{Reportable}
use Rattle.refusal.proofs.Rows.{in_order}
use Rattle.refusal.proofs.Table.{question_rows, drain_rows, table_rows}

module _ (words : List ℕ) (speeds : List Float) (k : ℕ) where
  module _ (q : CaseQuestion) where
    abbrev asked : ℕ
    asked = refusal_at (question (of_case k q)) (lent words speeds)

    module _ (z : asked ≡ 0) where
      fine : sound words speeds ≡ true
      fine = accepted-sound (question (of_case k q)) words speeds refl z

      -- 21 and 23, then its own rows
      later : row (ltb 6 k) 21 (row (not (eqb k 0 || filled_at words k)) 23 (question_number (network_at words) q)) ≡ 0
      later = row_later _ _ _ (sym (question_rows words speeds k q) ∙ z)

      case_there : (not (eqb k 0 || filled_at words k)) ≡ false
      case_there = row_passed _ _ _ (row_later _ _ _ later)

      high : ltb 6 k ≡ false
      high = row_passed _ _ _ later

      own : question_number (network_at words) q ≡ 0
      own = row_later _ _ _ (row_later _ _ _ later)

      pub reportable : Reportable words speeds (get_or words 1 0) k
      reportable =
          record {
            laid = subst (λ (n : ℕ). Laid words speeds n) (size_word words) (laid words speeds fine);
            high = ltb-false _ _ high;
            sound = case_sound words speeds fine k (not-false _ case_there);
          }

      pub question_long : 2576 ≤ length words
      question_long = omega (arith, reportable.laid.room)

  -- ---- the segment asked for
  module _ (i : ℕ) where
    module _ (z : asked (segment i) ≡ 0) where
      inside : outside 1 i (size_at words) ≡ false
      unfolding question_number network_from
      inside = row_passed _ _ _ (own (segment i) z)

      pub segment_low : 1 ≤ i
      segment_low = inside_low 1 i (size_at words) inside

      pub segment_high : i ≤ get_or words 1 0
      segment_high = omega (arith, size_word words, inside_high 1 i (size_at words) inside)

      -- what the row of its ramp rests on
      pub segment_asked : (asked (segment i) ≡ 0) × (2560 ≤ length words) × (1 ≤ i) × (i ≤ size_at words)
      segment_asked = (z, omega (arith, question_long (segment i) z), segment_low, omega (arith, size_word words, segment_high))

      pub network_kept : SegmentsKept (net_of words) (head_in (net_of words))
      network_kept = segments_kept _ (omega (arith, length-take {A = ℕ} 2560 words, question_long (segment i) z)) (laid words speeds (fine (segment i) z)).net

    -- the drain of its queue has all the rows of the segment's report
    pub drain-taken : asked (drain i) ≡ 0 → asked (segment i) ≡ 0
    drain-taken z = first_zero_left _ _ (sym (drain_rows words speeds k i) ∙ z)

pub ruleset drain_asked = (in_order, segment_asked, network_kept, table_rows)
