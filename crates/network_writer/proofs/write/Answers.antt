-- The head, then the entries, then the records, one after the other.
use Rattle.network_writer.proofs.Writing.{written_by}
use Rattle.network_writer.proofs.write.Goals as goal

pub returns : goal.returns
returns c = written_by _ _ c.requires.kept_value _ c.kept_head-h.ensures _ c.record_size-w.ensures.0 _ _ _ c.put_head.ensures c.put_entries.ensures (rw c.curve_start-at.ensures.0 at c.put_records.ensures)
