-- What keep writes of a file b: zeros, then the head, the entries and the segments over them, and the four put together.
use Rattle.std.proofs.Common.{◌≡◌, ℕ, ◌+◌, ◌-◌, ◌*◌, ◌≤◌, List, ◌++◌, length, take, drop, replicate, sym, ap, ◌∙◌, subst, append_assoc, arith, length-append, length-take, length-drop, length-take-le}
use Rattle.std.proofs.lemmas.List.{drop-replicate}
use lib.Seq.{drop-drop}
use lib.ListN.{length-replicate, replicate-append-replicate}
use Rattle.laws.specs.Lists.{table, parts, puts}
use Rattle.laws.specs.BigEndian.{u32_at}
use Rattle.laws.proofs.Lists.{length-table, span, parts_ext, table_ext, table_blocks}
use Rattle.laws.proofs.Puts.{put_after, puts-after}
use Rattle.format.specs.declared.Head.{Head}
use Rattle.format.specs.Network.{network_from, entry_of, segment_of}
use Rattle.format.specs.File.{file_number, head_of, entry_on, segment_on, network_of}
use Rattle.format.specs.Words.{head_words, segment_words, kept_words}
use Rattle.format.proofs.File.{file-accepted, network_within}
use Rattle.format.proofs.From.{from_entry, from_segment}
use Rattle.format.proofs.Kept.{length-head-words}

-- ---- lengths

pub length_kept : (ws : List ℕ) → 2560 ≤ length ws → length (take 2560 ws) ≡ 2560
length_kept ws long = length-take-le 2560 ws long

pub head_few : (b : List ℕ) → file_number b ≡ 0 → (head_of b).curves ≤ 8
head_few b z = (network_within b z).head.curves_high

pub head_short : (b : List ℕ) → file_number b ≡ 0 → (head_of b).size ≤ 40
head_short b z = (network_within b z).head.size_high

-- the words that are lent for the entries
abbrev lent : List ℕ → Head → List ℕ
lent out h = take (16 + 201 * h.curves - 16) (drop 16 out)

pub entries_fit : (b out : List ℕ) (h : Head) → file_number b ≡ 0 → h ≡ head_of b → 16 + 4 * length (lent out h) ≤ length b
entries_fit b out h z is =
    let whole = (file-accepted b z).head.sized.long in
    let same : h.curves ≡ (head_of b).curves = ap (λ (g : Head). g.curves) is in
    omega (arith, whole, same, length-take (16 + 201 * h.curves - 16) (drop 16 out))

pub ruleset keep_lengths = (length_kept, head_few, head_short)

-- n entries were put over the part from word 16 on that was lent
entries_back : (f : ℕ → ℕ) (out ys : List ℕ) (n : ℕ) → 16 + n ≤ length out → ys ≡ table f (length (take (16 + n - 16) (drop 16 out)))
    → take 16 out ++ (ys ++ drop (16 + n - 16) (drop 16 out)) ≡ take 16 out ++ (table f n ++ drop (16 + n) out)
entries_back f out ys n room is =
    let wide : length (take (16 + n - 16) (drop 16 out)) ≡ n = length-take (16 + n - 16) (drop 16 out) ∙ omega (arith, room, length-drop 16 out) in
    rw (is, wide, span 16 n, drop-drop)

-- ---- the four writes, one after the other

abbrev zeros : List ℕ
zeros = replicate 2560 0

-- what is left of them from word m on
zeros_from : (m : ℕ) → drop m zeros ≡ replicate (2560 - m) 0
zeros_from m = drop-replicate m 2560 0

module _ (b : List ℕ) where
  -- the entry that stands at byte 16 + 4 m
  abbrev entry_from : ℕ → ℕ
  entry_from m = u32_at b (16 + 4 * m)

  -- the words of segment i
  abbrev segment_from : ℕ → List ℕ
  segment_from i = segment_words (segment_on b i)

  module _ (few : (head_of b).curves ≤ 8) (short : (head_of b).size ≤ 40) where
    abbrev c : ℕ
    c = (head_of b).curves

    abbrev n : ℕ
    n = (head_of b).size

    -- the curves stand one after the other, in the words as in the file
    curves_are : parts (λ k. table (entry_of (network_of b) k) 201) c ≡ table entry_from (201 * c)
    curves_are =
        parts_ext _ (λ k. table (λ j. entry_from (201 * k + j)) 201) c
        (λ k lk. table_ext _ (λ j. entry_from (201 * k + j)) 201 (λ j lj. from_entry (head_of b) (entry_on b) (segment_on b) k j lk lj ∙ ap (u32_at b) (place k j)))
        ∙ table_blocks entry_from 201 c
      where
        place : (k j : ℕ) → 16 + 804 * k + 4 * j ≡ 16 + 4 * (201 * k + j)
        place k j = omega arith

    segments_are : parts (λ i. segment_words (segment_of (network_of b) i)) n ≡ parts segment_from n
    segments_are = parts_ext _ segment_from n (λ i l. ap segment_words (from_segment (head_of b) (entry_on b) (segment_on b) i l))

    -- the head and the curves, and the zeros after them up to word 1,624
    abbrev front : List ℕ
    front = head_words (head_of b) ++ table entry_from (201 * c)

    abbrev gap : List ℕ
    gap = replicate (1608 - 201 * c) 0

    length_front : length front ≡ 16 + 201 * c
    length_front = simp (length-append, length-head-words, length-table)

    length_gap : length (front ++ gap) ≡ 1624
    length_gap = length-append front gap ∙ simp (length_front, length-replicate) (omega (arith, few))

    rest_is : drop (16 + 201 * c) zeros ≡ gap ++ drop 1624 zeros
    rest_is =
        zeros_from (16 + 201 * c)
        ∙ ap (λ (m : ℕ). replicate m 0) (apart c few)
        ∙ sym (replicate-append-replicate (1608 - 201 * c) 936 0)
        ∙ ap (λ (l : List ℕ). gap ++ l) (sym (zeros_from 1624))
      where
        apart : (c : ℕ) → c ≤ 8 → 2560 - (16 + 201 * c) ≡ 1608 - 201 * c + 936
        apart c l = omega arith

    all_kept : (out next last : List ℕ) → out ≡ head_words (head_of b) ++ drop 16 zeros → next ≡ take 16 out ++ (table entry_from (201 * c) ++ drop (16 + 201 * c) out)
        → last ≡ puts 16 segment_from 1624 n next → last ≡ kept_words (network_of b)
    unfolding kept_words network_from
    all_kept out next last e f g =
        let next_is = f ∙ put_after zeros out (head_words (head_of b)) (table entry_from (201 * c)) 16 (201 * c) (length-head-words (head_of b)) e in
        let padded = next_is ∙ ap (λ (l : List ℕ). front ++ l) rest_is ∙ sym (append_assoc front gap (drop 1624 zeros)) in
        g
        ∙ puts-after zeros next (front ++ gap) 1624 16 segment_from n length_gap padded
        ∙ ap (λ (l : List ℕ). ((front ++ gap) ++ parts segment_from n) ++ l) (zeros_from (1624 + 16 * n) ∙ ap (λ (m : ℕ). replicate m 0) (left n short))
        ∙ simp append_assoc (rw (curves_are, segments_are))
      where
        left : (n : ℕ) → n ≤ 40 → 2560 - (1624 + 16 * n) ≡ 936 - 16 * n
        left n l = omega arith

  -- the same of an accepted file, for a head h that was read from it; ys are the entries, put over the words that were lent for them
  pub kept_by : file_number b ≡ 0 → (h : Head) → h ≡ head_of b → {cleared out ys last : List ℕ} → cleared ≡ zeros → out ≡ head_words h ++ drop 16 cleared
      → ys ≡ table entry_from (length (lent out h)) → last ≡ puts 16 segment_from 1624 h.size (take 16 out ++ (ys ++ drop (16 + 201 * h.curves - 16) (drop 16 out)))
      → last ≡ kept_words (network_of b)
  kept_by accepted h is {cleared} {out} {ys} {last} z e f =
      let curves : h.curves ≡ (head_of b).curves = ap (λ (g : Head). g.curves) is in
      let whole : length out ≡ 2560 = ap length e ∙ length-append (head_words h) (drop 16 cleared) ∙ simp (length-head-words, z) (omega arith) in
      let entries = entries_back entry_from out ys (201 * h.curves) (omega (arith, whole, curves, head_few b accepted)) f in
      subst
      (λ (h : Head). out ≡ head_words h ++ drop 16 zeros
      → (next : List ℕ) → next ≡ take 16 out ++ (table entry_from (201 * h.curves) ++ drop (16 + 201 * h.curves) out) → last ≡ puts 16 segment_from 1624 h.size next
      → last ≡ kept_words (network_of b))
      (sym is) (λ e next. all_kept (head_few b accepted) (head_short b accepted) out next last e) (e ∙ ap (λ (l : List ℕ). head_words h ++ drop 16 l) z) _ entries
