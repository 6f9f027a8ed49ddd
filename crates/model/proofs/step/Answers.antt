-- The arrivals and the mv before the step are summed, the states are stepped, and the totals are added to.
use Prim.Native.Nat.{◌+◌, ◌*◌, ◌≤◌}
use native.Mathlib.Omega.{arith}
use lib.ListN.{get_or}
use mathlib.Core.Path.{ap, ◌∙◌}
use Rattle.laws.specs.Sums.{sum_of}
use Rattle.laws.proofs.Lists.{span}
use Rattle.laws.proofs.Sums.{sum_high}
use Rattle.metanet.proofs.Turns.{size_high}
use Rattle.metanet.proofs.CaseLaws.{vehicles_high, spent_high, totals_ok, case_made}
use Rattle.model.proofs.step.Goals.{After-step_states-left}
use Rattle.model.proofs.step.Goals as goal

spent : (c : After-step_states-left) → get_or c.args.words.now 0 0 * c.args.vehicles ≤ 4800000000000000
spent c =
    spent_high c.requires.ready _ (omega (arith, c.requires.vehicles_value, sum_high _ 2000000000000 c.args.n (vehicles_high c.requires.ready), size_high c.requires.ready))

pub overflow_mul-time : goal.overflow_mul-time
overflow_mul-time c = omega (arith, spent (goal.at.overflow_mul-time c).After-step_states-left)

-- ---- the needs
pub add_totals-requires-clause-w_len : goal.add_totals-requires-clause-w_len
add_totals-requires-clause-w_len c =
    let ok = c.requires.ready in
    let k = totals_ok ok c.requires.totals_ok c.step_states-left.ensures.makes _ (span (c.args.at + 16 * c.args.n) 8) in
    (k.0, omega (arith, c.sum_arrivals-came.ensures.1, ok.arrivals, size_high ok), omega (arith, c.step_states-left.ensures.bound), omega (arith, spent (goal.at.add_totals-requires-clause-w_len c).After-step_states-left))

pub add_totals-requires-clause-totals_ok : goal.add_totals-requires-clause-totals_ok
add_totals-requires-clause-totals_ok c =
    (totals_ok c.requires.ready c.requires.totals_ok c.step_states-left.ensures.makes _ (span (c.args.at + 16 * c.args.n) 8)).1

pub sum_arrivals-came-requires : goal.sum_arrivals-came-requires
sum_arrivals-came-requires c = omega (arith, c.requires.ready.arrivals, size_high c.requires.ready)

pub returns-clause-words_after : goal.returns-clause-words_after
returns-clause-words_after c =
    let ok = c.requires.ready in
    let made = c.step_states-left.ensures in
    case_made ok c.requires.totals_ok made.makes (span (c.args.at + 16 * c.args.n) 8)
    (c.sum_arrivals-came.ensures.0 ∙ ap (sum_of _) ok.arrivals)
    made.leaves c.requires.vehicles_value c.add_totals.ensures
