-- A network that is kept in words: what acceptance says of it.
use Prim.Native.Nat.{ℕ, ◌≤◌}
use mathlib.Core.List.{List}
use mathlib.Core.Path.{◌≡◌}
use lib.ListN.{length}
use borrow.Author.Tests.{ltb-false}
use Rattle.laws.proofs.First.{row_passed, row_later}
use Rattle.format.specs.Network.{rows_number}
use Rattle.format.proofs.Accepted.{Formed, RowsWithin, Kept, SegmentsKept}
use Rattle.format.specs.Words.{head_in, entry_in, segment_in, network_in, kept_number}
use Rattle.format.proofs.Rows.{rows_within}
use Rattle.format.proofs.From.{from_formed}

module _ (ws : List ℕ) where
  -- ---- what acceptance says
  module _ (z : kept_number ws ≡ 0) where
    pub kept_long : 2560 ≤ length ws
    unfolding kept_number
    kept_long = ltb-false _ _ (row_passed _ _ _ z)

    kept_rows : rows_number (head_in ws) (entry_in ws) (segment_in ws) ≡ 0
    unfolding kept_number
    kept_rows = row_later _ _ _ z

    pub kept_within : RowsWithin (head_in ws) (entry_in ws) (segment_in ws)
    kept_within = rows_within _ _ _ kept_rows

    pub kept_head : Kept ws (head_in ws)
    kept_head = record { within = kept_within.head; long = kept_long }

  -- what its code asks of the segments
  pub segments_kept : 2560 ≤ length ws → RowsWithin (head_in ws) (entry_in ws) (segment_in ws) → SegmentsKept ws (head_in ws)
  segments_kept long w = record { kept = record { within = w.head; long = long }; each = w.each; onward = w.onward; chained = w.chained }

  pub kept_formed : Formed (network_in ws)
  kept_formed = from_formed (head_in ws) (entry_in ws) (segment_in ws)
