-- Zeros, then the head, the entries and the segments over them, one after the other.
use Rattle.std.proofs.Common.{◌≡◌, ℕ, List, ◌++◌, take, drop, replicate, ap, ◌∙◌}
use Rattle.std.proofs.lemmas.List.{take_at, drop_at}
use lib.ListN.{length, length-replicate}
use Rattle.format.specs.File.{network_of}
use Rattle.format.specs.Words.{kept_words}
use Rattle.network_words.proofs.KeepCall.{length_kept, entries_fit, kept_by}
use Rattle.network_words.proofs.keep.Goals as goal

pub put_entries-requires : goal.put_entries-requires
put_entries-requires c = entries_fit _ c.put_head.new.words _ c.requires.0 c.head_of-h.ensures

pub returns : goal.returns
returns c =
    let rest : List ℕ = drop 2560 c.args.words.now in
    let zeros : c.fill.new.self ≡ replicate 2560 0 = c.fill.ensures.after (λ y e. e) ∙ ap (λ (n : ℕ). replicate n 0) (length_kept _ c.requires.1) in
    let long : length c.fill.new.self ≡ 2560 = ap length zeros ∙ length-replicate {A = ℕ} 2560 0 in
    let cleared : take 2560 (c.fill.new.self ++ rest) ≡ replicate 2560 0 = take_at c.fill.new.self rest 2560 long ∙ zeros in
    let kept = kept_by _ c.requires.0 _ c.head_of-h.ensures cleared c.put_head.ensures c.put_entries.ensures c.put_segments.ensures in
    ap (λ (l : List ℕ). l ++ drop 2560 (c.fill.new.self ++ rest)) kept ∙ ap (λ (l : List ℕ). kept_words (network_of c.args.file.now) ++ l) (drop_at c.fill.new.self rest 2560 long)
