-- The first k arrivals are written.
use Rattle.std.proofs.Common.{◌≡◌}
use Rattle.laws.specs.Lists.{puts}
use Rattle.survey_file.proofs.RoundTrip.{arrival_bytes}
use Rattle.survey.proofs.writer.put_arrivals.Given as goal

abbrev pub invariant-loop-k : goal.invariant-loop-k
invariant-loop-k l = l.out ≡ puts 4 (arrival_bytes l.list) 8 l.k l.initial.out
