use Rattle.std.proofs.Common.{ℕ, rules, ltb}
use borrow.Author.Tests.{tests}
use Rattle.format.specs.File.{head_of, record_number}
use Rattle.format.specs.Place.{bad_record}
use Rattle.places.proofs.Found.{first_in_range}
use Rattle.places.proofs.search.bad_record.Goals as goal

pub returns : goal.returns
unfolding bad_record
returns c =
    let test = λ (i : ℕ). ltb 0 (record_number c.args.file.now (head_of c.args.file.now) i) in
    rw c.unwrap_or.ensures (first_in_range test 40 _ _ c.find.result c.find.ensures.ran (λ x b q k. search (rules, tests)))
