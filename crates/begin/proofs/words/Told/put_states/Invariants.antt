-- The first i states are written.
use Rattle.std.proofs.Common.{◌≡◌}
use Rattle.laws.specs.Lists.{puts}
use Rattle.begin.specs.Ready.{open_words_on}
use Rattle.begin.proofs.words.Told.put_states.Given as goal

abbrev pub invariant-loop-i : goal.invariant-loop-i
invariant-loop-i l = l.words ≡ puts 16 (open_words_on l.self.file.now l.self.mvs.now l.self.queues.now) 2576 l.i l.initial.words
