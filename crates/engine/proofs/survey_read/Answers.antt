use Rattle.std.proofs.Common.{◌≤◌, length, arith}
use Rattle.engine.proofs.Calling.{interface, list_kept}
use Rattle.engine.proofs.survey_read.Goals as goal

pub returns : goal.returns
returns c =
    let room : 1 ≤ length c.args.figures.now = grind arith in
    let kept = list_kept _ _ _ _ c.read.result c.read.ensures.refusal room in
    record { number = grind (arith, interface); figures_are = grind (arith, interface); list_is = cc kept }
