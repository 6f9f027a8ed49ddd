use Rattle.std.proofs.Common.{arith}
use Rattle.laws.proofs.First.{first_of_end}
use Rattle.laws.proofs.Refused.{refused_at}
use Rattle.sound.proofs.study.Study.check_slots.Goals as goal

pub returns-in_err-check_slot : goal.returns-in_err-check_slot
returns-in_err-check_slot c =
    grind (arith, refused_at _ _ _ _ c.loop-k-test.true c.loop-k.invariant c.in_err-check_slot.ensures)

pub returns : goal.returns
returns c = first_of_end _ _ _ c.loop-k.auto.k-end c.loop-k-test.false c.loop-k.invariant
