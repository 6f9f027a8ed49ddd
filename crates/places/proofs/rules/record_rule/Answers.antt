use Rattle.places.proofs.rules.record_rule.Goals as goal

pub returns : goal.returns
returns c = rw (c.first_held.ensures, c.record_rules.ensures)
