use Rattle.std.proofs.Common.{arith, ◌-◌}
use Rattle.reports.proofs.Reporting.{showable}
use Rattle.reports.proofs.figures.Case.segment.Goals as goal

pub state_figures-requires : goal.state_figures-requires
state_figures-requires c = showable c.args.self.now.reportable (c.args.i - 1) c.state.ensures (omega arith)
