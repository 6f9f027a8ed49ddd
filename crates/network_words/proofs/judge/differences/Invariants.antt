-- The OR is of the first differences.
use Rattle.std.specs.Prelude.{slice_index}
use Rattle.network_words.specs.Differences.{Differences}
use Rattle.network_words.proofs.judge.differences.Given as goal

abbrev pub invariant-loop-j : goal.invariant-loop-j
invariant-loop-j l = Differences (slice_index l.curve) l.j l.acc
