-- The words of a network: how many they are, and what is read back from them.
use Prim.Native.Nat.{ℕ, ◌+◌, ◌-◌, ◌*◌, ◌≤◌, ◌<◌}
use mathlib.Core.Path.{◌≡◌, refl, sym, ap, ◌∙◌}
use mathlib.Core.List.{List, [], ◌++◌, append_assoc, append-nil}
use lib.ListN.{length, get_or, take, drop, replicate, length-append, length-replicate}
use lib.Seq.{drop-drop, drop_at}
use native.Mathlib.Omega.{arith}
use native.Mathlib.Nat.{add-zero}
use Rattle.laws.specs.Lists.{table, part, parts}
use Rattle.laws.proofs.Lists.{length-table, get_or-table, length-parts, parts_at, part_at}
use Rattle.format.specs.declared.Head.{Head}
use Rattle.format.specs.declared.Segment.{Segment}
use Rattle.format.specs.Network.{Network, network_from, entry_of, segment_of}
use Rattle.format.specs.Words.{head_in, entry_in, segment_in, network_in, head_words, segment_words, kept_words}
use Rattle.format.proofs.Accepted.{Formed}
use Rattle.format.proofs.From.{from_held}

pub length-head-words : (h : Head) → length (head_words h) ≡ 16
unfolding head_words
length-head-words h = refl

pub length-segment-words : (s : Segment) → length (segment_words s) ≡ 16
unfolding segment_words
length-segment-words s = refl

-- a segment is read in the 16 words that it fills
abbrev segment_word : ℕ → ℕ
segment_word i = 1624 + 16 * i

segment_part_lem : (ws : List ℕ) (i : ℕ) (s : Segment) → part (segment_word i) 16 ws ≡ segment_words s → segment_in ws i ≡ s
unfolding segment_in segment_words
segment_part_lem ws i s e = λ j. record {
  metres = (ap (λ (m : ℕ). get_or ws m 0) (sym (add-zero (segment_word i))) ∙ at 0 (omega arith)) j;
  lanes = at 1 (omega arith) j;
  curve = at 2 (omega arith) j;
  critical = at 3 (omega arith) j;
  jam = at 4 (omega arith) j;
  origin = at 5 (omega arith) j;
  exit = at 6 (omega arith) j;
  most = at 7 (omega arith) j;
  following = record { first = at 8 (omega arith) j; second = at 9 (omega arith) j; share = at 10 (omega arith) j };
}
  where
    at : (k : ℕ) → k < 16 → get_or ws (segment_word i + k) 0 ≡ get_or (segment_words s) k 0
    at k l = sym (part_at ws (segment_word i) 16 k 0 l) ∙ ap (λ (l : List ℕ). get_or l k 0) e

module _ (w : Network) where
  abbrev c : ℕ
  c = w.head.curves

  abbrev n : ℕ
  n = w.head.size

  abbrev curve_part : ℕ → List ℕ
  curve_part k = table (entry_of w k) 201

  abbrev segment_part : ℕ → List ℕ
  segment_part i = segment_words (segment_of w i)

  length-curves : length (parts curve_part c) ≡ 201 * c
  length-curves = length-parts 201 curve_part c (λ k l. length-table (entry_of w k) 201)

  length-segments : length (parts segment_part n) ≡ 16 * n
  length-segments = length-parts 16 segment_part n (λ i l. length-segment-words _)

  pub length_kept : c ≤ 8 → n ≤ 40 → length (kept_words w) ≡ 2560
  unfolding kept_words
  length_kept few short = simp (length-append, length-head-words, length-curves, length-segments, length-replicate) (count c n few short)
    where
      count : (c n : ℕ) → c ≤ 8 → n ≤ 40 → 16 + (201 * c + (1608 - 201 * c + (16 * n + (936 - 16 * n)))) ≡ 2560
      count c n few short = omega arith

  -- ---- read back, whatever follows the words
  module _ (rest : List ℕ) where
    abbrev ws : List ℕ
    ws = kept_words w ++ rest

    pub head_kept : head_in ws ≡ w.head
    unfolding head_in kept_words head_words
    head_kept = refl

    -- what stands after the segments, after the curves, and after the head
    abbrev end : List ℕ
    end = replicate (936 - 16 * n) 0 ++ rest

    abbrev middle : List ℕ
    middle = replicate (1608 - 201 * c) 0 ++ (parts segment_part n ++ end)

    apart : ws ≡ head_words w.head ++ (parts curve_part c ++ middle)
    unfolding kept_words
    apart = simp append_assoc

    after-head : drop 16 ws ≡ parts curve_part c ++ middle
    after-head = ap (drop 16) apart ∙ drop_at (head_words w.head) (parts curve_part c ++ middle) 16 (length-head-words w.head)

    pub entry_kept : (k j : ℕ) → k < c → j < 201 → entry_in ws k j ≡ entry_of w k j
    entry_kept k j lk lj =
        sym (part_at ws (16 + 201 * k) 201 j 0 lj)
        ∙ ap (λ (l : List ℕ). get_or (take 201 l) j 0) (sym (drop-drop (201 * k) 16 ws) ∙ ap (drop (201 * k)) after-head)
        ∙ ap (λ (l : List ℕ). get_or l j 0) (parts_at 201 curve_part c k middle (λ i l. length-table (entry_of w i) 201) lk)
        ∙ get_or-table (entry_of w k) 201 j 0 lj

    module _ (few : c ≤ 8) where
      abbrev front : List ℕ
      front = head_words w.head ++ (parts curve_part c ++ replicate (1608 - 201 * c) 0)

      length_front : length front ≡ 1624
      length_front = simp (length-append, length-head-words, length-curves, length-replicate) (omega (arith, few))

      after-curves : drop 1624 ws ≡ parts segment_part n ++ end
      after-curves =
          let at_front : ws ≡ front ++ (parts segment_part n ++ end) = apart ∙ simp append_assoc in
          ap (drop 1624) at_front ∙ drop_at front (parts segment_part n ++ end) 1624 length_front

      pub segment_kept : (i : ℕ) → i < n → segment_in ws i ≡ segment_of w i
      segment_kept i l =
          segment_part_lem ws i (segment_of w i)
          (ap (take 16) (sym (drop-drop (16 * i) 1624 ws) ∙ ap (drop (16 * i)) after-curves)
          ∙ parts_at 16 segment_part n i end (λ k m. length-segment-words _) l)

  -- ---- read back from the words alone
  pub head_back : head_in (kept_words w) ≡ w.head
  head_back = ap head_in (sym (append-nil (kept_words w))) ∙ head_kept []

  pub entry_back : (k j : ℕ) → k < c → j < 201 → entry_in (kept_words w) k j ≡ entry_of w k j
  entry_back k j lk lj = ap (λ (l : List ℕ). entry_in l k j) (sym (append-nil (kept_words w))) ∙ entry_kept [] k j lk lj

  pub segment_back : c ≤ 8 → (i : ℕ) → i < n → segment_in (kept_words w) i ≡ segment_of w i
  segment_back few i l = ap (λ (l : List ℕ). segment_in l i) (sym (append-nil (kept_words w))) ∙ segment_kept [] few i l

  -- the whole network
  pub kept_back : Formed w → c ≤ 8 → network_in (kept_words w) ≡ w
  kept_back f few =
      ap (λ (h : Head). network_from h (entry_in (kept_words w)) (segment_in (kept_words w))) head_back
      ∙ from_held w f (entry_in (kept_words w)) (segment_in (kept_words w)) entry_back (segment_back few)
