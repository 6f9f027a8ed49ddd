use Rattle.std.proofs.Common.{◌≡◌, Bool, rules, true, false}
use borrow.Author.Tests.{tests}
use Rattle.std.proofs.lemmas.Iterator.{IsFirst-from_position, YieldsList-from_slice}
use Rattle.places.proofs.Found.{first_in_list}
use Rattle.places.proofs.rules.first_held.Goals as goal

pub returns : goal.returns
returns c =
    rw c.unwrap_or.ensures
    (first_in_list _ c.position.result (IsFirst-from_position _ _ _ (λ (t : Bool). t ≡ true) (λ t. t ≡ false) c.position.ensures.ran (YieldsList-from_slice c.args.tests.now cc) (λ x q k. search (rules, tests)) (λ x q k. search (rules, tests))))
