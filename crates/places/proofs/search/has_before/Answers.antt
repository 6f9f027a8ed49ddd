use Rattle.std.proofs.Common.{ℕ, rules, refl, arith, ◌∙◌}
use borrow.Author.Tests.{tests}
use Rattle.std.proofs.lemmas.Iterator.{YieldsList-from_range}
use Rattle.std.proofs.lemmas.Iterator.Search.{any_from_yields_List}
use Rattle.format.specs.File.{segment_on}
use Rattle.format.specs.Network.{goes_to, has_before}
use Rattle.places.proofs.Found.{some_in_range}
use Rattle.places.proofs.search.has_before.Goals as goal

pub returns : goal.returns
unfolding has_before
returns c =
    let test = λ (k : ℕ). goes_to c.args.i (segment_on c.args.file.now k).following in
    any_from_yields_List test _ _ c.any.result c.any.ensures.ran (YieldsList-from_range 0 c.args.n c.args.n refl (omega arith)) (λ x b q k. search (rules, tests)) ∙ some_in_range test c.args.n
