-- The segment's fields are in range where neither row 7 nor row 27 refuses it.
use Rattle.std.proofs.Common.{sym}
use Rattle.format.proofs.Accepted.{SegmentWithin}
use Rattle.format.proofs.Rows.{fields_within}
use Rattle.network.proofs.SegmentRows.{fields_stop, speed_stops, segment_passes}
use Rattle.network.proofs.segments.check_segment.Given.{Over}
use Rattle.network.proofs.segments.check_segment.Goals.{In_ok-check_following}
use Rattle.network.proofs.segments.check_segment.Goals as goal

within : (g : Over) (c : In_ok-check_following g) → SegmentWithin c.head-h.result c.args.i c.segment-s.result
within g c = fields_within _ _ _ 0 _ (sym c.if-fields_bad.ensures) (sym c.in_ok-check_following.ensures)

pub returns-then-fields_bad : goal.returns-then-fields_bad
returns-then-fields_bad g c = fields_stop _ _ _ _ _ c.head-h.ensures c.segment-s.ensures (sym c.if-fields_bad.ensures)

pub first_entry-requires : goal.first_entry-requires
first_entry-requires g c = rw (← c.head-h.ensures) (within g c).curve_high

pub too_fast-requires : goal.too_fast-requires
too_fast-requires g c =
    (rw c.head-h.ensures (g.met.N.Numbers.within c.args.net.now).step_high, c.first_entry.ensures.1, (within g (goal.at.too_fast-requires g c).In_ok-check_following).metres_high)

pub returns-then-too_fast : goal.returns-then-too_fast
returns-then-too_fast g c =
    speed_stops _ _ _ _ _ c.head-h.ensures c.segment-s.ensures (sym c.if-fields_bad.ensures) c.in_ok-check_following.ensures (rw (← c.first_entry.ensures.0) (sym c.if-too_fast.ensures))

pub returns : goal.returns
returns g c =
    segment_passes _ _ _ _ _ c.head-h.ensures c.segment-s.ensures (sym c.if-fields_bad.ensures) c.in_ok-check_following.ensures (rw (← c.first_entry.ensures.0) (sym c.if-too_fast.ensures))
