-- The first m entries are put.
use Rattle.std.proofs.Common.{◌+◌, ◌*◌, length}
use Rattle.laws.specs.Lists.{table}
use Rattle.laws.specs.BigEndian.{u32_at}
use Rattle.laws.proofs.Puts.{Stored}
use Rattle.network_words.proofs.keeper.put_entries.Given as goal

abbrev pub invariant-loop-m : goal.invariant-loop-m
invariant-loop-m l = let n = length l.initial.words in
    Stored (table (λ k. u32_at l.file (16 + 4 * k)) n) 0 n l.initial.words l.words l.m
