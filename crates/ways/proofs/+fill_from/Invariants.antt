-- `fill_from` calls itself at the next segment: n minus the segment number falls.
use Rattle.std.proofs.Common.{◌-◌}
use Rattle.ways.proofs.+fill_from.Given as goal

abbrev pub decreases-fill_from : goal.decreases-fill_from
decreases-fill_from l = l.n - l.i
