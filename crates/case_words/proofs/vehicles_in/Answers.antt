use Rattle.std.proofs.Common.{◌≡◌, ℕ, ◌+◌, ◌*◌, ◌≤◌, ◌<◌, length, slice_index_or, arith, add-zero, ap, ◌∙◌}
use Rattle.std.proofs.lemmas.List.{length_push}
use Rattle.std.specs.Slice.Iter.{chunks_exact_rest, chunks_exact_size}
use Rattle.laws.specs.Sums.{sum_of}
use Rattle.laws.proofs.Sums.{sum_none, sum_more}
use Rattle.metanet.proofs.Ready.{vehicles_at}
use Rattle.case_words.proofs.Chunks.{chunk_none, chunk_more, chunk_word, chunk_next, chunk_end}
use Rattle.case_words.proofs.vehicles_in.Goals.{In-Some}
use Rattle.case_words.proofs.vehicles_in.Goals as goal

-- this turn's words are those of state k, which are at most 2 × 10¹²
held : (c : In-Some)
    → (let x = slice_index_or c.in-Some.w.now 0 0 + slice_index_or c.in-Some.w.now 1 0 in
    (length c.loop-w.yielded < c.args.n) × (x ≡ vehicles_at c.args.words.now c.args.at (length c.loop-w.yielded)) × (x ≤ 2000000000000))
held c =
    let step = c.in-Some.ensures.steps in
    let chunk = c.loop-w.invariant.1 in
    let more = chunk_more chunk _ _ step.1.0 step.1.1 in
    let zeroth : slice_index_or c.in-Some.w.now 0 0 ≡ slice_index_or c.args.words.now (c.args.at + 16 * length c.loop-w.yielded) 0 = chunk_word chunk _ _ step.1.0 step.1.1 0 0 (omega arith) ∙ ap (λ (i : ℕ). slice_index_or c.args.words.now i 0) (add-zero _) in
    let first = chunk_word chunk _ _ step.1.0 step.1.1 1 0 (omega arith) in
    (more, omega (arith, zeroth, first), omega (arith, zeroth, first, c.requires.by_index (length c.loop-w.yielded) more))

pub loop-w-init : goal.loop-w-init
loop-w-init c =
    let is = c.into_iter-w-iterator.ensures.into_iter_gives in
    let made = c.chunks_exact-w-items.ensures in
    (sum_none, chunk_none c.requires.n_bound.1 (omega arith) (ap chunks_exact_rest is ∙ made.rest) (ap chunks_exact_size is ∙ made.size))

pub overflow_add-sum : goal.overflow_add-sum
overflow_add-sum c = omega (arith, held (goal.at.overflow_add-sum c).In-Some)

pub overflow_add-sum-in-loop-w : goal.overflow_add-sum-in-loop-w
overflow_add-sum-in-loop-w c = omega (arith, held (goal.at.overflow_add-sum-in-loop-w c).In-Some, c.requires.n_bound, c.loop-w.invariant.0.high)

pub loop-w-preserved : goal.loop-w-preserved
loop-w-preserved c =
    let step = c.in-Some.ensures.steps in
    let h = held (goal.at.loop-w-preserved c).In-Some in
    rw (length_push c.loop-w.yielded c.in-Some.w) (sum_more c.loop-w.invariant.0 h.1 h.2, chunk_next c.loop-w.invariant.1 _ _ step.1.0 step.1.1 step.0)

pub returns : goal.returns
returns c =
    let sum = c.loop-w.invariant.0 in
    let end = chunk_end c.loop-w.invariant.1 c.in-None.ensures.steps.1.0 in
    (sum.is ∙ ap (sum_of _) end, omega (arith, sum.high, end))
