use Rattle.std.proofs.Common.{◌≡◌, ◌≤◌, length, slice_index_or, arith, ap, ◌∙◌}
use Rattle.std.proofs.lemmas.List.{length_push}
use Rattle.std.specs.Slice.Iter.{chunks_exact_rest, chunks_exact_size}
use Rattle.laws.specs.Sums.{sum_of}
use Rattle.laws.proofs.Sums.{sum_none, sum_more}
use Rattle.case_words.specs.Sums.{figure_at}
use Rattle.case_words.proofs.Chunks.{chunk_none, chunk_more, chunk_word, chunk_next, chunk_end}
use Rattle.case_words.proofs.column.Goals.{In-Some}
use Rattle.case_words.proofs.column.Goals as goal

-- this turn's words are those of state k, whose figure is at most 10¹²
held : (c : In-Some)
    → (let x = slice_index_or c.in-Some.w.now c.args.o 0 in
    (x ≡ figure_at c.args.words.now c.args.at c.args.o (length c.loop-w.yielded)) × (x ≤ 1000000000000))
held c =
    let step = c.in-Some.ensures.steps in
    let chunk = c.loop-w.invariant.1 in
    let more = chunk_more chunk _ _ step.1.0 step.1.1 in
    let word = chunk_word chunk _ _ step.1.0 step.1.1 c.args.o 0 (omega (arith, c.requires.inside)) in
    (word, omega (arith, word, c.requires.high (length c.loop-w.yielded) more))

pub loop-w-init : goal.loop-w-init
loop-w-init c =
    let is = c.into_iter-w-iterator.ensures.into_iter_gives in
    let made = c.chunks_exact-w-items.ensures in
    (sum_none, chunk_none (omega (arith, c.requires.room)) (omega arith) (ap chunks_exact_rest is ∙ made.rest) (ap chunks_exact_size is ∙ made.size))

pub overflow_add-sum : goal.overflow_add-sum
overflow_add-sum c =
    let step = c.in-Some.ensures.steps in
    let more = chunk_more c.loop-w.invariant.1 _ _ step.1.0 step.1.1 in
    omega (arith, held (goal.at.overflow_add-sum c).In-Some, more, c.requires.many, c.loop-w.invariant.0.high)

pub loop-w-preserved : goal.loop-w-preserved
loop-w-preserved c =
    let step = c.in-Some.ensures.steps in
    let h = held (goal.at.loop-w-preserved c).In-Some in
    rw (length_push c.loop-w.yielded c.in-Some.w) (sum_more c.loop-w.invariant.0 h.0 h.1, chunk_next c.loop-w.invariant.1 _ _ step.1.0 step.1.1 step.0)

pub returns : goal.returns
returns c =
    c.loop-w.invariant.0.is ∙ ap (sum_of _) (chunk_end c.loop-w.invariant.1 c.in-None.ensures.steps.1.0)
