use Rattle.std.proofs.Common.{refl}
use Rattle.metanet.specs.Step.{outflow_now, remainder_now}
use Rattle.metanet.proofs.SegmentLaws.{outflow_at_most_count}
use Rattle.segment.proofs.site.Site.outflow.Goals as goal

pub returns : goal.returns
unfolding outflow_now remainder_now
returns c =
    let s = c.args.self.now in
    rw c.whole_speed.ensures.0 (record { whole = (refl, outflow_at_most_count s.segment_ok s.state_ok.flowing); remainder = refl })
