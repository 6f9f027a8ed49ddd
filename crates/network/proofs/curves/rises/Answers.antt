-- No definition is opened here: the 200 rows would be written out.
use Rattle.std.proofs.Common.{rules}
use Rattle.network.proofs.curves.rises.Goals as goal

pub returns : goal.returns
returns c = search rules
