-- None of those passed is refused.
use Rattle.std.proofs.Common.{◌≡◌}
use Rattle.laws.specs.First.{first_of}
use Rattle.format.specs.File.{curve_in}
use Rattle.network.proofs.file.File.check_curves.Given as goal

abbrev pub invariant-loop-k : goal.invariant-loop-k
invariant-loop-k l = first_of (curve_in l.self.bytes.now) l.k ≡ 0
