-- The states refuse, or the totals, or nothing does.
use Rattle.std.proofs.Common.{sym, arith}
use Rattle.laws.proofs.Refused.{number_some}
use Rattle.metanet.proofs.SoundLaws.{vehicles-each, case_states, case_totals}
use Rattle.sound.proofs.case.Case.check.Goals as goal

pub returns-in_err-check_states : goal.returns-in_err-check_states
returns-in_err-check_states c = grind (arith, case_states c.args.self.now.placed c.in_err-check_states.ensures (number_some _))

pub vehicles_in-vehicles-requires-clause-by_index : goal.vehicles_in-vehicles-requires-clause-by_index
vehicles_in-vehicles-requires-clause-by_index c = vehicles-each c.args.self.now.placed (sym c.in_ok-check_states.ensures)

pub returns : goal.returns
returns c = case_totals c.args.self.now.placed (sym c.in_ok-check_states.ensures) c.vehicles_in-vehicles.ensures.0 c.check_totals.ensures
