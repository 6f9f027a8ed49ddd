-- The marked cases, computed.
use mathlib.Core.Path.{refl}
use lib.Ieee.{add, sub, mul, div, lt, le, of_int, to_unsigned}
use Rattle.laws.specs.Sums.{sum_of}
use Rattle.format.specs.Marked.{one_segment}
use Rattle.format.proofs.Marked.{speed_limit}
use Rattle.metanet.specs.Speed.{keep, new_speed}
use Rattle.metanet.specs.Step.{sign_of, moves, step_on}
use Rattle.metanet.specs.Marked.{MarkedCases, at_start, after_one, after_two, bent}
use Rattle.metanet.specs.Report.{case_figures}
use Rattle.metanet.specs.Start.{start_case}

pub marked : MarkedCases
unfolding at_start after_one after_two bent case_figures start_case one_segment step_on moves new_speed keep sign_of sum_of add sub mul div lt le of_int to_unsigned
marked =
    record {
      listing_0 = refl;
      listing_1 = refl;
      listing_2 = refl;
      speed_1 = refl;
      speed_2 = refl;
      jam_bound_lem = refl;
      jam_bound_full = refl;
      jam_bound_over = refl;
      change_down = refl;
      change_just_above = refl;
      change_just_below = refl;
      curve_between = refl;
      sign_shown = refl;
      speed_limit = speed_limit;
    }
