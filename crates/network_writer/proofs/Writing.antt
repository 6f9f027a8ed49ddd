-- What is written of a kept network: the head, then the entries, then the records, and the three put together.
use Prim.Native.Nat.{ℕ, ◌+◌, ◌-◌, ◌*◌, ◌≤◌, ◌<◌}
use mathlib.Core.Path.{◌≡◌, sym, ap, ◌∙◌, subst}
use mathlib.Core.List.{List, ◌++◌, append_assoc}
use Rattle.std.proofs.lemmas.List.{get_or-drop, get_or-take}
use borrow.Rule.Slice.PartMut.{put_mid}
use lib.ListN.{length, get_or, take, drop, length-append, length-take, length-drop}
use native.Mathlib.Omega.{arith}
use native.Mathlib.Nat.{add_assoc}
use Rattle.laws.specs.Lists.{part, parts, puts}
use Rattle.laws.specs.BigEndian.{u32_bytes}
use Rattle.laws.proofs.Lists.{span, part_fits, parts_ext, parts-parts, length-parts}
use Rattle.laws.proofs.BigEndian.{length_u32}
use Rattle.laws.proofs.Puts.{puts-after, Filled, filled_none, filled_more, filled_copied, filled_all}
use Rattle.format.specs.declared.Head.{Head}
use Rattle.format.specs.Network.{network_from, entry_of, segment_of}
use Rattle.format.specs.File.{record_size, file_size}
use Rattle.format.specs.Written.{head_bytes, record_bytes, file_of}
use Rattle.format.specs.Words.{head_in, entry_in, segment_in, network_in, kept_number}
use Rattle.format.proofs.Record.{long_bytes, length_long_part, record_is}
use Rattle.format.proofs.Reading.{length-head_bytes}
use Rattle.format.proofs.Keeping.{kept_head}
use Rattle.format.proofs.From.{from_entry, from_segment}

-- ---- the bounds of an accepted network's words

pub words_long : (ws : List ℕ) → kept_number ws ≡ 0 → 2560 ≤ length ws
words_long ws z = (kept_head ws z).long

pub head_few : (ws : List ℕ) → kept_number ws ≡ 0 → (head_in ws).curves ≤ 8
head_few ws z = (kept_head ws z).within.curves_high

pub head_short : (ws : List ℕ) → kept_number ws ≡ 0 → (head_in ws).size ≤ 40
head_short ws z = (kept_head ws z).within.size_high

pub ruleset write_bounds = (words_long, head_few, head_short)

-- ---- the loop over the entries

-- the bytes of entry j
abbrev pub entry_bytes : List ℕ → ℕ → List ℕ
entry_bytes entries j = u32_bytes (get_or entries j 0)

module _ (entries l : List ℕ) (room : 16 + 4 * length entries ≤ length l) where
  pub entries_none : Filled 4 (entry_bytes entries) 16 (length entries) l l 0
  entries_none = filled_none (λ k h. length_u32 _) room

  -- the part that was lent, k bytes as the code computes it, came back as ys
  pub entries_more : (out ys : List ℕ) (j k : ℕ) → j < length entries → Filled 4 (entry_bytes entries) 16 (length entries) l out j → k ≡ 4
      → ys ≡ entry_bytes entries j ++ drop 4 (part (16 + 4 * j) k out) → Filled 4 (entry_bytes entries) 16 (length entries) l (put_mid (16 + 4 * j) k out ys) (j + 1)
  entries_more out ys j k h t four e = filled_more (λ k h. length_u32 _) room t h four e

pub ruleset entry_loop = (entries_none, entries_more, filled_all, span)

-- ---- the loop over the records

-- the first w bytes of record i
abbrev pub record_bytes_in : List ℕ → ℕ → ℕ → List ℕ
record_bytes_in ws w i = take w (long_bytes (segment_in ws i))

module _ (ws : List ℕ) (w at n : ℕ) (l : List ℕ) (narrow : w ≤ 20) (room : at + w * n ≤ length l) where
  pub records_none : Filled w (record_bytes_in ws w) at n l l 0
  records_none = filled_none (λ k h. length_long_part _ _ narrow) room

  pub records_more : (out ys bytes : List ℕ) (i k : ℕ) → i < n → Filled w (record_bytes_in ws w) at n l out i → k ≡ w → bytes ≡ long_bytes (segment_in ws i)
      → ys ≡ take w bytes → Filled w (record_bytes_in ws w) at n l (put_mid (at + w * i) k out ys) (i + 1)
  records_more out ys bytes i k h t wide is e = filled_copied (λ k h. length_long_part _ _ narrow) room t h wide (rw is at e)

pub ruleset record_loop = (records_none, records_more, filled_all, span, part_fits)

module _ (ws : List ℕ) where
  -- the bytes of the entry that stands at word 16 + m
  abbrev pub entry_bytes_in : ℕ → List ℕ
  entry_bytes_in m = u32_bytes (get_or ws (16 + m) 0)

  -- the n entries from word 16 on, as a list of their own
  abbrev entries_in : ℕ → List ℕ
  entries_in n = take (16 + n - 16) (drop 16 ws)

  entries_put : (n : ℕ) → 16 + n ≤ length ws → (out : List ℕ) → puts 4 (entry_bytes (entries_in n)) 16 (length (entries_in n)) out ≡ puts 4 entry_bytes_in 16 n out
  unfolding puts
  entries_put n room out =
      let wide : length (entries_in n) ≡ n = length-take (16 + n - 16) (drop 16 ws) ∙ omega (arith, room, length-drop 16 ws) in
      ap (λ (m : ℕ). take 16 out ++ (parts (entry_bytes (entries_in n)) m ++ drop (16 + 4 * m) out)) wide
      ∙ ap (λ (ps : List ℕ). take 16 out ++ (ps ++ drop (16 + 4 * n) out))
      (parts_ext _ entry_bytes_in n (λ j l. ap u32_bytes (get_or-take (16 + n - 16) (drop 16 ws) j 0 (omega (arith, l)) ∙ get_or-drop 16 ws j 0)))

  -- the curves stand one after the other, in the words as in the file
  curves_are : parts (λ k. parts (λ j. u32_bytes (entry_of (network_in ws) k j)) 201) (head_in ws).curves ≡ parts entry_bytes_in (201 * (head_in ws).curves)
  curves_are =
      parts_ext _ (λ k. parts (λ j. entry_bytes_in (201 * k + j)) 201) (head_in ws).curves
      (λ k lk.
      parts_ext _ (λ j. entry_bytes_in (201 * k + j)) 201
      (λ j lj. ap u32_bytes (from_entry (head_in ws) (entry_in ws) (segment_in ws) k j lk lj ∙ ap (λ (m : ℕ). get_or ws m 0) (add_assoc 16 (201 * k) j))))
      ∙ parts-parts entry_bytes_in 201 (head_in ws).curves

  abbrev of_file : ℕ → List ℕ
  of_file = record_bytes_in ws (record_size (head_in ws))

  records_are : parts (λ i. record_bytes (head_in ws) (segment_of (network_in ws) i)) (head_in ws).size ≡ parts of_file (head_in ws).size
  records_are =
      parts_ext _ of_file (head_in ws).size
      (λ i l. ap (record_bytes (head_in ws)) (from_segment (head_in ws) (entry_in ws) (segment_in ws) i l) ∙ record_is (head_in ws) (segment_in ws i))

  file_is : file_of (network_in ws) ≡ head_bytes (head_in ws) ++ (parts entry_bytes_in (201 * (head_in ws).curves) ++ parts of_file (head_in ws).size)
  unfolding file_of network_from
  file_is = ap (λ (r : List ℕ). head_bytes (head_in ws) ++ r) (λ i. curves_are i ++ records_are i)

  -- ---- the three writes, one after the other, over the buffer o
  module _ (o : List ℕ) where
    abbrev c : ℕ
    c = (head_in ws).curves

    head_and_entries : (out : List ℕ) → out ≡ head_bytes (head_in ws) ++ drop 16 o → puts 4 entry_bytes_in 16 (201 * c) out ≡ (head_bytes (head_in ws) ++ parts entry_bytes_in (201 * c)) ++ drop (16 + 804 * c) o
    head_and_entries out is =
        puts-after o out (head_bytes (head_in ws)) 16 4 entry_bytes_in (201 * c) (length-head_bytes (head_in ws)) is
        ∙ ap (λ (m : ℕ). (head_bytes (head_in ws) ++ parts entry_bytes_in (201 * c)) ++ drop m o) (bytes c)
      where
        bytes : (c : ℕ) → 16 + 4 * (201 * c) ≡ 16 + 804 * c
        bytes c = omega arith

    long : length (head_bytes (head_in ws) ++ parts entry_bytes_in (201 * c)) ≡ 16 + 804 * c
    long = simp (length-append, length-head_bytes) (omega (arith, length-parts 4 entry_bytes_in (201 * c) (λ k l. length_u32 _)))

    all_written : (out next last : List ℕ) → out ≡ head_bytes (head_in ws) ++ drop 16 o → next ≡ puts 4 entry_bytes_in 16 (201 * c) out
        → last ≡ puts (record_size (head_in ws)) of_file (16 + 804 * c) (head_in ws).size next → last ≡ file_of (network_in ws) ++ drop (file_size (head_in ws)) o
    all_written out next last e f g =
        g
        ∙ puts-after o next (head_bytes (head_in ws) ++ parts entry_bytes_in (201 * c)) (16 + 804 * c) (record_size (head_in ws)) of_file (head_in ws).size long (f ∙ head_and_entries out e)
        ∙ ap (λ (l : List ℕ). l ++ drop (file_size (head_in ws)) o)
        (append_assoc (head_bytes (head_in ws)) (parts entry_bytes_in (201 * c)) (parts of_file (head_in ws).size) ∙ sym file_is)

    -- the same for a head h that was read from the words, and its records' width w
    pub written_by : kept_number ws ≡ 0 → (h : Head) → h ≡ head_in ws → (w : ℕ) → w ≡ record_size h → (out next last : List ℕ) → out ≡ head_bytes h ++ drop 16 o
        → next ≡ puts 4 (entry_bytes (entries_in (201 * h.curves))) 16 (length (entries_in (201 * h.curves))) out
        → last ≡ puts w (record_bytes_in ws w) (16 + 804 * h.curves) h.size next → last ≡ file_of (network_in ws) ++ drop (file_size (head_in ws)) o
    written_by accepted h is w width out next last e f g =
        let curves : h.curves ≡ (head_in ws).curves = ap (λ (h : Head). h.curves) is in
        let entries = f ∙ entries_put (201 * h.curves) (omega (arith, curves, words_long ws accepted, head_few ws accepted)) out in
        let narrow = g ∙ ap (λ (w : ℕ). puts w (record_bytes_in ws w) (16 + 804 * h.curves) h.size next) width in
        subst
        (λ (h : Head).
        out ≡ head_bytes h ++ drop 16 o → next ≡ puts 4 entry_bytes_in 16 (201 * h.curves) out
        → last ≡ puts (record_size h) (record_bytes_in ws (record_size h)) (16 + 804 * h.curves) h.size next → last ≡ file_of (network_in ws) ++ drop (file_size (head_in ws)) o)
        (sym is) (all_written out next last) e entries narrow
