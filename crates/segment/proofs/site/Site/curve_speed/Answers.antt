use Rattle.std.proofs.Common.{◌-◌, ◌*◌, ◌%◌, ◌≤◌, mod-lt, mul-le-mul, arith}
use Rattle.segment.proofs.site.Site.curve_speed.Goals.{After-whole-2}
use Rattle.segment.proofs.site.Site.curve_speed.Goals as goal

-- (e(j) − e(j+1)) × (N mod G)
product : (c : After-whole-2)
    → (c.entry-high.result - c.entry-low.result) * (c.args.self.now.state.count % c.args.self.now.lane_metres) ≤ 3200000000
product c =
    mul-le-mul {n₂ = 200000} {m₂ = 16000} (omega (arith, c.entry-high.ensures.1)) (omega (arith, mod-lt c.args.self.now.state.count {m = c.args.self.now.lane_metres} (omega arith)))

pub overflow_mul-high : goal.overflow_mul-high
overflow_mul-high c = omega (arith, product c)

pub whole-requires-3 : goal.whole-requires-3
whole-requires-3 c = omega (arith, product c)
