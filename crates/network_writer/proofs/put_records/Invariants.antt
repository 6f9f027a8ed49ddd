-- The first i records are put.
use Rattle.laws.proofs.Puts.{Filled}
use Rattle.network_writer.proofs.Writing.{record_bytes_in}
use Rattle.network_writer.proofs.put_records.Given as goal

abbrev pub invariant-loop-i : goal.invariant-loop-i
invariant-loop-i l = Filled l.w (record_bytes_in l.kept l.w) l.at l.n l.initial.out l.out l.i
