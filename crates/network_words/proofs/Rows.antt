-- The rows of a network that is kept in words, in the order of the code.
use Rattle.std.proofs.Common.{◌≡◌, ℕ, ◌<◌, ◌≤◌, Bool, true, false, List, length, sym, refl, ◌∙◌, le-ltb, arith}
use Rattle.laws.specs.First.{row, first, first_of}
use Rattle.laws.proofs.First.{row_passed, row_later, row_skipped, first_zero, first_some, first_of-zero, first_of_all}
use Rattle.laws.proofs.Refused.{number_some, first_refused}
use Rattle.format.specs.declared.Head.{Head}
use Rattle.format.specs.Network.{version_bad, head_bad, origin_number, rows_number}
use Rattle.format.specs.Words.{head_in, entry_in, segment_in, kept_number}
use Rattle.format.proofs.Accepted.{HeadWithin, Kept, SegmentsKept}
use Rattle.format.proofs.Chain.{chain-origin}
use Rattle.format.proofs.Rows.{head_within, curve_within, each_passed, onward_passed, chain_passed}
use Rattle.network_words.specs.Rows.{head_row, curve_row, segment_row}

-- ---- all rows, one after the other

pub kept_parts : (ws : List ℕ) → 2560 ≤ length ws → let h = head_in ws in
    kept_number ws
    ≡ first (head_row h) (first (first_of (curve_row ws) h.curves) (first (first_of (segment_row ws h) h.size) (first_of (origin_number (segment_in ws) h.size) h.size)))
unfolding kept_number rows_number head_row
kept_parts ws long = row_skipped _ _ _ (le-ltb _ _ long) ∙ go (version_bad (head_in ws)) (head_bad (head_in ws)) _
  where
    go : (v b : Bool) (m : ℕ) → row v 3 (row b 4 m) ≡ first (row v 3 (row b 4 0)) m
    go true b m = unfold row first in refl
    go false true m = unfold row first in refl
    go false false m = unfold row first in refl

pub head_accepted : (h : Head) → head_row h ≡ 0 → HeadWithin h
unfolding head_row
head_accepted h z = head_within h (row_passed _ _ _ z) (row_passed _ _ _ (row_later _ _ _ z))

-- ---- where they refuse none

pub curve_starts : (ws : List ℕ) (c k : ℕ) → first_of (curve_row ws) c ≡ 0 → k < c → entry_in ws k 0 ≤ 200000
curve_starts ws c k none l = (curve_within (entry_in ws k) (first_of-zero (curve_row ws) c none k l)).start_high

module _ (ws : List ℕ) (h : Head) (kept : Kept ws h) (none : first_of (segment_row ws h) h.size ≡ 0) where
  passed : (i : ℕ) → i < h.size → segment_row ws h i ≡ 0
  passed = first_of-zero (segment_row ws h) h.size none

  segments_kept : SegmentsKept ws h
  segments_kept = record {
    kept = kept;
    each = λ i l. each_passed h (entry_in ws) (segment_in ws) i (passed i l);
    onward = λ i l. onward_passed h (entry_in ws) (segment_in ws) i (passed i l);
    chained = λ i l. chain_passed h (entry_in ws) (segment_in ws) i (passed i l);
  }

  pub segments_read : h ≡ head_in ws → SegmentsKept ws (head_in ws)
  segments_read is = rw is at segments_kept

-- in version 1 each segment is followed by the next, and the first has an origin
pub chain_passes : (ws : List ℕ) (h : Head) → SegmentsKept ws h → h.version ≡ 1 → 0 ≡ first_of (origin_number (segment_in ws) h.size) h.size
chain_passes ws h judged one =
    let first = (judged.each 0 (omega (arith, judged.kept.within))).origin_first refl in
    sym (first_of_all _ h.size (chain-origin (segment_in ws) h.size (λ k l. judged.chained k l one) first))

pub ruleset kept_rows = (kept_parts, first_zero, first_refused, head_accepted, segments_read)
