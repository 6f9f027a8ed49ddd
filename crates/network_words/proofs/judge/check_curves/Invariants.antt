-- None of those passed is refused.
use Rattle.std.proofs.Common.{◌≡◌}
use Rattle.laws.specs.First.{first_of}
use Rattle.network_words.specs.Rows.{curve_row}
use Rattle.network_words.proofs.judge.check_curves.Given as goal

abbrev pub invariant-loop-curve : goal.invariant-loop-curve
invariant-loop-curve l = first_of (curve_row l.net.words.now) l.curve-index ≡ 0
