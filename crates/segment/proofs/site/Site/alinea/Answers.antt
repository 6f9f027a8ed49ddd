use Rattle.std.proofs.Common.{◌-◌, ◌*◌, arith, le-leb, mul-le-mul}
use borrow.Author.Tests.{lt-leb}
use native.Mathlib.Nat.{div-le_self}
use Rattle.metanet.specs.Flow.{alinea_rate}
use Rattle.metanet.proofs.FlowLaws.{moved_down}
use Rattle.segment.proofs.site.Site.alinea.Goals as goal

pub overflow_add-r : goal.overflow_add-r
overflow_add-r c =
    let s = c.args.self.now in
    let r = c.ramp-r.ensures.ok in
    let wanted = mul-le-mul {n₂ = 11940} {m₂ = 16000} (mul-le-mul {n₂ = 60} {m₂ = 199} r.summed r.target) s.area_high in
    omega (arith, r.rate, s.segment_ok.most_high, mul-le-mul {m₁ = c.ramp-r.result.summed * c.ramp-r.result.target * s.lane_metres - c.ramp-r.result.sum} {n₂ = 60000} {m₂ = 191040000} r.gain (omega (arith, wanted)), div-le_self)

pub returns-then-r-wanted : goal.returns-then-r-wanted
unfolding alinea_rate
returns-then-r-wanted c = rw (← c.ramp-r.ensures.value, le-leb _ _ c.if-r-wanted.true) c.clamp.ensures

pub returns : goal.returns
unfolding alinea_rate
returns c = rw (← c.ramp-r.ensures.value) (simp (lt-leb _ _ c.if-r-wanted.false, moved_down, c.clamp-2.ensures, c.saturating_sub.ensures))
