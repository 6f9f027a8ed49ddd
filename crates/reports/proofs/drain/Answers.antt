use Rattle.reports.proofs.Reporting.{drain_answered}
use Rattle.reports.proofs.drain.Goals as goal

pub returns : goal.returns
returns c = drain_answered _ _ _ _ c.in_ok-check_drain.ensures _ _ c.drain_time.ensures c.segment-f.ensures
