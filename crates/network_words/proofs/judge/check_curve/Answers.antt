use Rattle.std.proofs.Common.{arith}
use Rattle.network_words.proofs.Differences.{curve_passes}
use Rattle.network_words.proofs.judge.check_curve.Goals as goal

pub returns : goal.returns
returns c = curve_passes c.differences.ensures (cc) c.if-differences-gt262143.false (omega arith)
