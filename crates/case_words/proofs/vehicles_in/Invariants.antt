-- What the states so far hold, and which are still to come.
use Rattle.std.proofs.Common.{length}
use Rattle.std.specs.Slice.Iter.{chunks_exact_rest, chunks_exact_size}
use Rattle.laws.proofs.Sums.{Summed}
use Rattle.metanet.proofs.Ready.{vehicles_at}
use Rattle.case_words.proofs.Chunks.{Chunked}
use Rattle.case_words.proofs.vehicles_in.Given as goal

abbrev pub invariant-loop-w : goal.invariant-loop-w
invariant-loop-w l = Summed (vehicles_at l.words l.at) 2000000000000 (length l.yielded) l.sum
    × Chunked l.words l.at l.n (length l.yielded) (chunks_exact_rest l.w-iterator) (chunks_exact_size l.w-iterator)
