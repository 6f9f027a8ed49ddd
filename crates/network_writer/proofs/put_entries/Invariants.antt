-- The first j entries are put.
use Rattle.std.proofs.Common.{length}
use Rattle.laws.proofs.Puts.{Filled}
use Rattle.network_writer.proofs.Writing.{entry_bytes}
use Rattle.network_writer.proofs.put_entries.Given as goal

abbrev pub invariant-loop-j : goal.invariant-loop-j
invariant-loop-j l = Filled 4 (entry_bytes l.entries) 16 (length l.entries) l.initial.out l.out l.j
