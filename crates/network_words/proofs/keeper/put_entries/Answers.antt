use Rattle.std.proofs.Common.{refl, sym, ◌∙◌, arith}
use Rattle.laws.proofs.Lists.{length-table, get_or-table}
use Rattle.laws.proofs.Puts.{stored_more, stored_whole}
use Rattle.network_words.proofs.keeper.put_entries.Goals as goal

pub loop-m-preserved : goal.loop-m-preserved
loop-m-preserved c = let more = c.loop-m-test.true in
    stored_more (length-table _ _) (omega arith) c.loop-m.invariant 0 more (omega arith) (c.u32_in.ensures.0 ∙ sym (get_or-table _ _ _ 0 more))

pub returns : goal.returns
returns c = stored_whole (length-table _ _) refl c.loop-m.invariant c.loop-m-test.false
