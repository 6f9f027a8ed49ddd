-- The invariant: sum is the sum of the arrivals so far.
use Rattle.std.proofs.Common.{◌≡◌, ◌*◌, ◌≤◌}
use lib.ListN.{get_or}
use Rattle.laws.specs.Sums.{sum_of}
use Rattle.model.proofs.totals.sum_arrivals.Given as goal

abbrev pub invariant-loop-d : goal.invariant-loop-d
invariant-loop-d l =
    (l.sum ≡ sum_of (λ k. get_or l.arrivals k 0) l.d-index) × (l.sum ≤ 4294967296 * l.d-index)
