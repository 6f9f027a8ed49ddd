use Rattle.begin.proofs.Beginning.{marks_are}
use Rattle.begin.proofs.words.put_marks.Goals as goal

pub returns : goal.returns
returns c = marks_are _ _ c.requires (c.fill.ensures.after (λ y e. e))
