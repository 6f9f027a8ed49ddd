use Rattle.std.proofs.Common.{◌≡◌, ◌≤◌, ◌<◌, ◌+◌, ◌-◌, ◌*◌, ℕ, List, length, take, drop, leb, rules, arith, length-take-le, length-drop, get_or-take, get_or-drop, ◌∙◌, ap, slice_index_or}
use Rattle.std.proofs.lemmas.List.{get_or_default}
use Rattle.std.proofs.lemmas.List.Sorted.{IsPartitionPoint-from_clause}
use borrow.Author.Tests.{tests}
use Rattle.format.specs.Words.{entry_in}
use Rattle.segment.proofs.PastCritical.{past_fall, past_found}
use Rattle.segment.proofs.site.Site.limiting_density.Goals as goal

-- the entries of curve k past c, up to jam, of a network's words
abbrev past : List ℕ → ℕ → ℕ → ℕ → List ℕ
past net k c jam = let zero = 16 + 201 * k in take (zero + jam + 1 - (zero + c + 1)) (drop (zero + c + 1) net)

module _ (net : List ℕ) (k c jam : ℕ) (below : c < jam) (high : jam ≤ 200) (small : k < 8) (long : 2560 ≤ length net) where
  past_length : length (past net k c jam) ≡ jam - c
  past_length = length-take-le _ _ (omega (arith, length-drop (16 + 201 * k + c + 1) net)) ∙ omega arith

  past_is : (i d : ℕ) → i < jam - c → slice_index_or (past net k c jam) i d ≡ entry_in net k (c + 1 + i)
  past_is i d l =
      get_or-take _ _ i d (omega (arith, l))
      ∙ get_or-drop _ _ i d
      ∙ get_or_default net _ d 0 (omega (arith, l))
      ∙ ap (λ (j : ℕ). slice_index_or net j 0) (omega arith)

pub returns : goal.returns
returns c =
    let s = c.args.self.now in
    let ok = s.segment_ok in
    let len = past_length s.net.words.now s.own.curve s.own.critical s.own.jam ok.critical_high ok.jam_high ok.curve_high s.net.long in
    let is = past_is s.net.words.now s.own.curve s.own.critical s.own.jam ok.critical_high ok.jam_high ok.curve_high s.net.long in
    let fall = past_fall (entry_in s.net.words.now s.own.curve) s.own.critical s.own.jam _ len is c.args.y s.curve_within ok.jam_high in
    let point = IsPartitionPoint-from_clause (λ x. leb c.args.y x) _ _ c.partition_point.ensures.partitioned fall (λ a r f k. search (rules, tests)) in
    let found = past_found (entry_in s.net.words.now s.own.curve) s.own.critical s.own.jam _ len is c.args.y _ (omega (arith, ok.critical_high)) c.requires c.partition_point.ensures.bound point in
    (found, omega (arith, ok.jam_high, ok.critical_high, c.partition_point.ensures.bound, len))
