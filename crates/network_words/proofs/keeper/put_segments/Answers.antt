use Rattle.std.proofs.Common.{◌+◌, ◌*◌, ap, ◌∙◌}
use Rattle.laws.proofs.Lists.{span}
use Rattle.laws.proofs.Puts.{filled_none, filled_copied}
use Rattle.format.specs.Words.{segment_words}
use Rattle.format.proofs.Kept.{length-segment-words}
use Rattle.network_words.proofs.keeper.put_segments.Goals as goal

pub loop-i-init : goal.loop-i-init
loop-i-init c = filled_none (λ k l. length-segment-words _) c.requires

pub loop-i-preserved : goal.loop-i-preserved
loop-i-preserved c = filled_copied (λ k l. length-segment-words _) c.requires c.loop-i.invariant c.loop-i-test.true (span (1624 + 16 * c.loop-i.i) 16)
    (c.copy_from_slice.ensures.after ∙ c.segment_words.ensures ∙ ap segment_words c.segment_of-s.ensures)
