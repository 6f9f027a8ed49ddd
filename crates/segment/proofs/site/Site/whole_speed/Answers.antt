use Rattle.std.proofs.Common.{arith}
use Rattle.metanet.proofs.SegmentLaws.{truncating_speed, whole_speed_high}
use Rattle.segment.proofs.site.Site.whole_speed.Goals as goal

pub truncating_f64_to_u64-requires-clause-lower_bound : goal.truncating_f64_to_u64-requires-clause-lower_bound
truncating_f64_to_u64-requires-clause-lower_bound c = (truncating_speed c.args.self.now.segment_ok c.args.self.now.state_ok.flowing.speed).above

pub truncating_f64_to_u64-requires-clause-upper_bound : goal.truncating_f64_to_u64-requires-clause-upper_bound
truncating_f64_to_u64-requires-clause-upper_bound c = (truncating_speed c.args.self.now.segment_ok c.args.self.now.state_ok.flowing.speed).under

pub returns : goal.returns
returns c = let is = c.truncating_f64_to_u64.ensures in
    (is, omega (arith, is, whole_speed_high c.args.self.now.segment_ok c.args.self.now.state_ok.flowing.speed))
