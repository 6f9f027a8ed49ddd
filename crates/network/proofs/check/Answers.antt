-- An accepted head says how long the file is.
use Rattle.std.proofs.Common.{sym}
use Rattle.format.proofs.File.{head-accepted}
use Rattle.network.proofs.check.Goals as goal

pub invariant_of-f : goal.invariant_of-f
invariant_of-f c = record {
  read = c.head_of.ensures;
  sized = rw c.head_of.ensures (head-accepted _ (sym c.in_ok-check_head.ensures)).sized;
}
