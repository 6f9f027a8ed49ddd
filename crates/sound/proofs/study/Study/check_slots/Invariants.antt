-- None of the slots passed is refused.
use Rattle.std.proofs.Common.{◌≡◌, ◌+◌, ℕ}
use Rattle.laws.specs.First.{first_of}
use Rattle.book.specs.Sound.{slot_number}
use Rattle.sound.proofs.study.Study.check_slots.Given as goal

abbrev pub invariant-loop-k : goal.invariant-loop-k
invariant-loop-k l = first_of (λ (k : ℕ). slot_number l.self.words.now l.self.speeds.now (k + 1)) l.k ≡ 0
