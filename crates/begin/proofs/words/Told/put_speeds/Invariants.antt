-- The first i speeds are written.
use Rattle.std.proofs.Common.{◌≡◌, ◌++◌, get_or, drop}
use Rattle.laws.specs.Lists.{table}
use Rattle.laws.specs.Real.{real}
use Rattle.begin.proofs.words.Told.put_speeds.Given as goal

abbrev pub invariant-loop-i : goal.invariant-loop-i
invariant-loop-i l = l.speeds ≡ table (λ k. real (get_or l.self.initial.now k 0)) l.i ++ drop l.i l.initial.speeds
