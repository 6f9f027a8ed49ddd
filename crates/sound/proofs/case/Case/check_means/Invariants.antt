-- None of those passed is refused.
use Rattle.std.proofs.Common.{◌≡◌}
use Rattle.laws.specs.First.{first_of}
use Rattle.metanet.proofs.InWords.{mean_number_in}
use Rattle.sound.proofs.case.Case.check_means.Given as goal

abbrev pub invariant-loop-i : goal.invariant-loop-i
invariant-loop-i l = first_of (mean_number_in l.self.words.now l.self.at) l.i ≡ 0
