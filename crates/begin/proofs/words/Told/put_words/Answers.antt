-- The network, then run count and marks, then the live case's states, then its totals, one after the other.
use Prim.Native.Nat.{◌+◌, ◌*◌}
use native.Mathlib.Omega.{arith}
use Rattle.format.specs.File.{head_of}
use Rattle.begin.proofs.Beginning.{zeros_are, begun}
use Rattle.begin.proofs.words.Told.put_words.Goals as goal

pub returns : goal.returns
returns c =
    let s = c.args.self.now in
    let n = (head_of s.file.now).size in
    begun s.file.now s.mvs.now s.queues.now c.args.words.now s.listed.file c.keep.ensures c.put_marks.ensures c.put_states.ensures
    (zeros_are c.put_states.new.words (2576 + 16 * n) 8 (omega arith) (omega arith) (omega arith) (c.fill.ensures.after (λ y e. e)))
