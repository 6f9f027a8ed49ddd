-- Rows 7, 27 and 8 of segment i, in the order of the code, which reads the head as h and the segment as s.
use Rattle.std.proofs.Common.{◌≡◌, ℕ, ◌||◌, Bool, true, false, sym}
use Rattle.laws.specs.First.{any_of}
use Rattle.laws.specs.Refusal.{number}
use Rattle.laws.specs.declared.Refusal.{Refusal}
use Rattle.laws.proofs.Refused.{number_some}
use Rattle.format.specs.declared.Head.{Head}
use Rattle.format.specs.declared.Segment.{Segment}
use Rattle.format.specs.Network.{segment_tests, too_fast}
use Rattle.format.proofs.Rows.{following_row, field-refused, following_refused, speed_refused, speed_passed}
use Rattle.network.specs.Segments.{segment_row}

module _ {h : Head} {s : Segment} (head : Head) (segment : ℕ → Segment) (first : ℕ → ℕ) (also_bad : ℕ → Bool) (i : ℕ) (head_is : h ≡ head) (is : s ≡ segment i) where
  pub fields_stop : (any_of (segment_tests h i s) || also_bad i) ≡ true → 7 ≡ segment_row head segment first also_bad i
  unfolding segment_row
  fields_stop b = field-refused _ _ _ _ _ (rw (head_is, is) at b)

  module _ (b : (any_of (segment_tests h i s) || also_bad i) ≡ false) where
    pub following_stops : (why : Refusal) → number why ≡ following_row h i s → number why ≡ segment_row head segment first also_bad i
    unfolding segment_row
    following_stops why f = following_refused _ _ _ _ _ (rw (head_is, is) at b) (rw (head_is, is) at f) (number_some why)

    module _ (f : 0 ≡ following_row h i s) where
      pub speed_stops : too_fast h (first s.curve) s ≡ true → 8 ≡ segment_row head segment first also_bad i
      unfolding segment_row
      speed_stops t = speed_refused _ _ _ _ _ (rw (head_is, is) at b) (sym (rw (head_is, is) at f)) (rw (head_is, is) at t)

      pub segment_passes : too_fast h (first s.curve) s ≡ false → 0 ≡ segment_row head segment first also_bad i
      unfolding segment_row
      segment_passes t = speed_passed _ _ _ _ _ (rw (head_is, is) at b) (sym (rw (head_is, is) at f)) (rw (head_is, is) at t)
