-- None of those passed is refused.
use Rattle.std.specs.Prelude.{◌≡◌}
use Rattle.laws.specs.First.{first_of}
use Rattle.refusal.specs.Ready.{start_number_on}
use Rattle.refusal.proofs.start.check.Given as goal

abbrev pub invariant-loop-i : goal.invariant-loop-i
invariant-loop-i l = first_of (start_number_on l.file l.mvs l.initial' l.queues) l.i ≡ 0
