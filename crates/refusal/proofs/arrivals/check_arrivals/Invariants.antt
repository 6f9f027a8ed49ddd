-- None of those passed is refused.
use Rattle.std.specs.Prelude.{◌≡◌}
use Rattle.laws.specs.First.{first_of}
use Rattle.metanet.proofs.InWords.{arrival_number_in}
use Rattle.refusal.proofs.arrivals.check_arrivals.Given as goal

abbrev pub invariant-loop-i : goal.invariant-loop-i
invariant-loop-i l = first_of (arrival_number_in l.net.words.now l.arrivals) l.i ≡ 0
