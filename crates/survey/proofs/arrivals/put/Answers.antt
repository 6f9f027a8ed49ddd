use Rattle.std.proofs.Common.{◌+◌, ◌*◌, arith}
use Rattle.laws.proofs.Lists.{rest_is}
use Rattle.survey.proofs.Loops.{put_next}
use Rattle.survey.proofs.arrivals.put.Goals as goal

pub loop-i-preserved : goal.loop-i-preserved
loop-i-preserved c =
    let all = rest_is (8 + 4 * c.args.first) c.args.file.now in
    put_next c.args.file.now _ _ _ _ c.args.first _ _ c.as_chunks.ensures.front all c.from_be_bytes.ensures (omega arith) (omega arith) c.loop-i.invariant
