use Rattle.std.proofs.Common.{◌*◌, ◌<◌, ◌≤◌, mul-le-mul, arith, le-ltb, lt-ltb}
use Rattle.format.specs.Words.{entry_in}
use Rattle.metanet.specs.Flow.{speed_bound}
use Rattle.segment.proofs.site.Site.speed_bound.Goals.{After-limiting_density-g}
use Rattle.segment.proofs.site.Site.speed_bound.Goals as goal

-- y is below the entry at C
below : (c : After-limiting_density-g) → (let s = c.args.self.now in c.args.y < entry_in s.net.words.now s.own.curve s.own.critical)
below c = omega (arith, c.if-y-entry.true, c.entry.ensures.0)

-- H × y, H × y × g, and that × T
products : (c : After-limiting_density-g)
    → (let s = c.args.self.now in let y = c.args.y in let g = c.limiting_density-g.result in
    (s.own.lanes * y ≤ 1600000) × (s.own.lanes * y * g ≤ 320000000) × (s.own.lanes * y * g * s.head.step ≤ 19200000000))
products c =
    let slow : c.args.y ≤ 200000 = omega (arith, below c, c.entry.ensures.0, c.entry.ensures.1) in
    let one = mul-le-mul {n₂ = 8} {m₂ = 200000} c.args.self.now.segment_ok.lanes_high slow in
    let two = mul-le-mul {n₂ = 1600000} {m₂ = 200} one c.limiting_density-g.ensures.1 in
    (one, two, mul-le-mul {n₂ = 320000000} {m₂ = 60} two c.args.self.now.head_within.step_high)

pub overflow_mul-result : goal.overflow_mul-result
overflow_mul-result c = omega (arith, products (goal.at.overflow_mul-result c).After-limiting_density-g)

pub overflow_mul-result-then-y-entry : goal.overflow_mul-result-then-y-entry
overflow_mul-result-then-y-entry c = omega (arith, products (goal.at.overflow_mul-result-then-y-entry c).After-limiting_density-g)

pub overflow_mul-result-then-y-entry-2 : goal.overflow_mul-result-then-y-entry-2
overflow_mul-result-then-y-entry-2 c = omega (arith, products (goal.at.overflow_mul-result-then-y-entry-2 c).After-limiting_density-g)

pub returns-then-y-entry : goal.returns-then-y-entry
unfolding speed_bound
returns-then-y-entry c = simp (lt-ltb _ _ (below (goal.at.returns-then-y-entry c).After-limiting_density-g), c.limiting_density-g.ensures.0)

pub returns : goal.returns
unfolding speed_bound
returns c = let s = c.args.self.now in
    simp (le-ltb c.args.y (entry_in s.net.words.now s.own.curve s.own.critical) (omega (arith, c.if-y-entry.false, c.entry.ensures.0)))
