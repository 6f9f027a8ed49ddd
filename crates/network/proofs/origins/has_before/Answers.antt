use Rattle.std.proofs.Common.{ℕ, rules, sym, ◌∙◌}
use borrow.Author.Tests.{tests}
use Rattle.std.proofs.lemmas.Iterator.Search.{any_from_yields_List}
use Rattle.format.specs.Network.{goes_to}
use Rattle.format.proofs.Before.{before_below}
use Rattle.network.proofs.Downwards.{yields_down, some_down}
use Rattle.network.proofs.origins.has_before.Goals as goal

pub returns : goal.returns
returns g c =
    let net = c.args.net.now in
    let i = c.args.i in
    let s = g.S.Segments in
    let test = λ (k : ℕ). goes_to i (s.segment net k).following in
    any_from_yields_List test _ _ c.any.result c.any.ensures.ran (yields_down i c.rev.ensures.source) (λ x b q k. search (rules, tests))
    ∙ some_down test i
    ∙ sym (before_below (s.segment net) (s.size net) i (g.met.S.Segments.onward net) c.requires)
