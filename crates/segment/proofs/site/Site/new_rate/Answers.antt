use Rattle.std.proofs.Common.{sym, ◌∙◌}
use Rattle.metanet.proofs.Average.{moves_some}
use Rattle.segment.proofs.site.Site.new_rate.Goals as goal

pub alinea-requires : goal.alinea-requires
alinea-requires c = moves_some _ _ (sym c.is_moved.ensures ∙ c.if-is_moved.true)
