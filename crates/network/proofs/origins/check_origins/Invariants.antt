-- None of those passed is refused.
use Rattle.std.proofs.Common.{◌≡◌}
use Rattle.laws.specs.First.{first_of}
use Rattle.format.specs.Network.{origin_number}
use Rattle.network.proofs.origins.check_origins.Given as goal

abbrev pub invariant-loop-i : goal.invariant-loop-i
invariant-loop-i g l = first_of (origin_number (g.S.Segments.segment l.net) l.n) l.i ≡ 0
