use Rattle.std.proofs.Common.{arith, ◌∙◌, sym}
use Rattle.std.proofs.Math.ListN.{get_or-eq_default}
use Rattle.inspect.specs.Values.{head_values}
use Rattle.inspect.proofs.head.field.Goals as goal

pub returns-in_default : goal.returns-in_default
returns-in_default c = c.new-in_default.ensures ∙ sym (get_or-eq_default (head_values c.args.file.now) 0 {n = c.args.rule} (omega arith))
