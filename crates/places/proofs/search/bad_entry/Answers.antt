use Rattle.std.proofs.Common.{ℕ, rules, ◌/◌, ◌%◌}
use borrow.Author.Tests.{tests}
use Rattle.format.specs.File.{entry_on}
use Rattle.format.specs.Place.{entry_bad, bad_entry}
use Rattle.places.proofs.Found.{first_in_range}
use Rattle.places.proofs.search.bad_entry.Goals as goal

pub returns : goal.returns
unfolding bad_entry
returns c =
    let test = λ (m : ℕ). entry_bad (entry_on c.args.file.now (m / 201)) (m % 201) in
    rw c.unwrap_or.ensures (first_in_range test 1608 _ _ c.find.result c.find.ensures.ran (λ x b q k. search (rules, tests)))
