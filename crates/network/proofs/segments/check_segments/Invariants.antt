-- None of those passed is refused.
use Rattle.std.proofs.Common.{◌≡◌}
use Rattle.laws.specs.First.{first_of}
use Rattle.network.specs.Segments.{segment_row}
use Rattle.network.proofs.segments.check_segments.Given as goal

abbrev pub invariant-loop-i : goal.invariant-loop-i
invariant-loop-i g l = let n = g.N.Numbers in first_of (segment_row (n.head l.net) (n.segment l.net) (n.first_entry l.net) (n.also_bad l.net)) l.i ≡ 0
