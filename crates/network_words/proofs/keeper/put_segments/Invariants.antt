-- The first i segments are put.
use Rattle.laws.proofs.Puts.{Filled}
use Rattle.format.specs.File.{segment_on}
use Rattle.format.specs.Words.{segment_words}
use Rattle.network_words.proofs.keeper.put_segments.Given as goal

abbrev pub invariant-loop-i : goal.invariant-loop-i
invariant-loop-i l = Filled 16 (λ k. segment_words (segment_on l.file k)) 1624 l.n l.initial.words l.words l.i
