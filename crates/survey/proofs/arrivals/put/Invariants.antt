-- The first i arrivals are put.
use Rattle.std.proofs.Common.{◌≡◌, ◌+◌, ◌++◌, drop}
use Rattle.laws.specs.Lists.{table}
use Rattle.survey_file.specs.File.{arrival_on}
use Rattle.survey.proofs.arrivals.put.Given as goal

abbrev pub invariant-loop-i : goal.invariant-loop-i
invariant-loop-i l = l.out ≡ table (λ k. arrival_on l.file (l.first + k)) l.i ++ drop l.i l.initial.out
