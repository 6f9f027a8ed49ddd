-- Whether row 6 refuses one of the first j entries after the start.
use Rattle.std.proofs.Common.{◌≡◌}
use Rattle.laws.specs.First.{row, first_of}
use Rattle.format.specs.Network.{rising}
use Rattle.format.specs.File.{entry_at}
use Rattle.network.proofs.curves.rises.Given as goal

abbrev pub invariant-loop-j : goal.invariant-loop-j
invariant-loop-j l = first_of (rising (entry_at l.file l.at)) l.j ≡ row l.rises 6 0
