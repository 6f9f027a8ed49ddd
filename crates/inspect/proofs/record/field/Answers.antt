use Rattle.std.proofs.Common.{arith, ◌∙◌, sym}
use Rattle.std.proofs.Math.ListN.{get_or-eq_default}
use Rattle.inspect.specs.Values.{record_values}
use Rattle.inspect.proofs.record.field.Goals as goal

pub returns-in_default : goal.returns-in_default
returns-in_default c = c.new-in_default.ensures ∙ sym (get_or-eq_default (record_values c.args.s c.args.byte) 0 {n = c.args.rule} (omega arith))
