use Rattle.std.proofs.Common.{ap, arith}
use Rattle.metanet.specs.declared.Ramp.{Ramp}
use Rattle.metanet.specs.Step.{new_state}
use Rattle.metanet.proofs.SegmentLaws.{rate_high}
use Rattle.segment.proofs.site.Site.state_amid.Goals as goal

pub new_speed-v-requires : goal.new_speed-v-requires
new_speed-v-requires c =
    let s = c.args.self.now in
    let rate = ap (λ (x : Ramp). x.rate) c.new_ramp-ramp.ensures in
    let high = rate_high s.own s.state_ok.ramp s.state.count c.args.t in
    omega (arith, rate, high, s.segment_ok.most_high, c.min-release.ensures, c.min.ensures)

pub returns : goal.returns
unfolding new_state
returns c = simp (
  c.new_speed-v.ensures,
  c.density.ensures,
  c.outflow-outflow.ensures.whole.0,
  c.outflow-outflow.ensures.remainder,
  c.min-release.ensures,
  c.min.ensures,
  c.new_ramp-ramp.ensures,
)
