use Rattle.std.proofs.Common.{arith}
use Rattle.format.proofs.Rows.{entry_high}
use Rattle.segment.proofs.site.Site.entry.Goals as goal

pub returns : goal.returns
returns c = (c.entry.ensures, omega (arith, c.entry.ensures, entry_high _ c.args.self.now.curve_within c.args.j c.requires))
