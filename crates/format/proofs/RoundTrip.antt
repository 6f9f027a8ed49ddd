-- The file of the network that an accepted file holds is that file, in either version.
use Prim.Native.Nat.{ℕ, ◌+◌, ◌*◌, ◌/◌, ◌≤◌, ◌<◌}
use mathlib.Core.Path.{◌≡◌, sym, ap, ap₂, ◌∙◌}
use mathlib.Core.Bool.{Bool, true, false, cond, ◌&&◌}
use mathlib.Core.List.{List, [], ◌++◌, append-nil}
use native.Mathlib.Nat.{add-zero, add_assoc}
use native.Mathlib.Omega.{arith}
use borrow.Author.Tests.{ltb-false, eqb-true}
use lib.Dec.{ltb, eqb}
use lib.ListN.{length, get_or, take, drop, length-drop}
use lib.Seq.{drop-drop, take-add, take_all}
use Rattle.laws.specs.Lists.{part, parts}
use Rattle.laws.specs.BigEndian.{Bytes, byte_at, u16_at, u32_at, low, u32_bytes}
use Rattle.laws.proofs.Tests.{or_left, or_right, and_left, and_right}
use Rattle.laws.proofs.First.{row_passed}
use Rattle.laws.proofs.Lists.{listed, part_listed, parts_of, three_parts}
use Rattle.laws.proofs.BigEndian.{low_byte, two_high, two_low, u32_written}
use Rattle.format.specs.declared.Head.{Head}
use Rattle.format.specs.declared.Segment.{Segment}
use Rattle.format.specs.Network.{network_from, entry_of, segment_of, chain, segment_bad, record_rows}
use Rattle.format.specs.File.{head_of, curve_start, record_size, record_start, following_at, following_of, segment_at, record_padding, record_number, file_number, entry_on, segment_on, network_of}
use Rattle.format.specs.Written.{head_bytes, following_bytes, segment_bytes, record_bytes, file_of, RoundTrip}
use Rattle.format.proofs.File.{FileAccepted, HeadAccepted, file-accepted, record_ends}
use Rattle.format.proofs.Record.{four_bytes}
use Rattle.format.proofs.From.{from_entry, from_segment}

module _ (b : List ℕ) (bs : Bytes b) where
  -- ---- the head
  head_bytes_lem : HeadAccepted b → head_bytes (head_of b) ≡ take 16 b
  unfolding head_bytes listed
  head_bytes_lem a =
      let m01 = and_left (eqb (byte_at b 0) 70 && eqb (byte_at b 1) 87) (eqb (byte_at b 2) 78) a.marked in
      let e0 = sym (eqb-true (byte_at b 0) 70 (and_left _ (eqb (byte_at b 1) 87) m01)) in
      let e1 = sym (eqb-true (byte_at b 1) 87 (and_right (eqb (byte_at b 0) 70) _ m01)) in
      let e2 = sym (eqb-true (byte_at b 2) 78 (and_right (eqb (byte_at b 0) 70 && eqb (byte_at b 1) 87) _ a.marked)) in
      let e3 = two_high _ _ (bs 3) (bs 4) in
      let e4 = two_low _ _ (bs 3) (bs 4) in
      let e5 = low_byte _ (bs 5) in
      let e6 = low_byte _ (bs 6) in
      let e7 = low_byte _ (bs 7) in
      let e8 = low_byte _ (bs 8) in
      let e9 = low_byte _ (bs 9) in
      let e10 = low_byte _ (bs 10) in
      let z11 = ltb-false 0 (byte_at b 11) (or_left _ (ltb 0 (u16_at b 14)) a.padding) in
      let z14 = ltb-false 0 (u16_at b 14) (or_right (ltb 0 (byte_at b 11)) _ a.padding) in
      let e11 : 0 ≡ get_or b 11 0 = omega arith in
      let e12 = two_high _ _ (bs 12) (bs 13) in
      let e13 = two_low _ _ (bs 12) (bs 13) in
      let e14 : 0 ≡ get_or b 14 0 = omega arith in
      let e15 : 0 ≡ get_or b 15 0 = omega arith in
      let e : head_bytes (head_of b) ≡ listed 0 b 0 0 16 = cc in
      e ∙ sym (part_listed 0 b 0 16 a.long)

  -- ---- a record
  module _ (h : Head) (i at : ℕ) where
    -- the byte at an offset that was reached in two steps
    again : (j k : ℕ) → get_or b (at + j + k) 0 ≡ get_or b (at + (j + k)) 0
    again j k = ap (λ (n : ℕ). get_or b n 0) (add_assoc at j k)

    segment_bytes_lem : at + 16 ≤ length b → record_padding b at ≡ false → segment_bytes (segment_at b h i at) ≡ part at 16 b
    unfolding segment_bytes listed
    segment_bytes_lem l pad =
        let v : ℕ = u32_at b (at + 10) in
        let b0 = bs (at + 10) in
        let b1 = bs (at + 10 + 1) in
        let b2 = bs (at + 10 + 2) in
        let b3 = bs (at + 10 + 3) in
        let z7 = ltb-false 0 (byte_at b (at + 7)) (or_left _ (ltb 0 (u16_at b (at + 14))) pad) in
        let z14 = ltb-false 0 (u16_at b (at + 14)) (or_right (ltb 0 (byte_at b (at + 7))) _ pad) in
        let e0 = two_high _ _ (bs at) (bs (at + 1)) in
        let e1 = two_low _ _ (bs at) (bs (at + 1)) in
        let e2 = low_byte _ (bs (at + 2)) in
        let e3 = low_byte _ (bs (at + 3)) in
        let e4 = low_byte _ (bs (at + 4)) in
        let e5 = low_byte _ (bs (at + 5)) in
        let e6 = low_byte _ (bs (at + 6)) in
        let e7 : 0 ≡ get_or b (at + 7) 0 = omega arith in
        let e8 = two_high _ _ (bs (at + 8)) (bs (at + 8 + 1)) in
        let e9 = two_low _ _ (bs (at + 8)) (bs (at + 8 + 1)) ∙ again 8 1 in
        let e10 : low (v / 16777216) ≡ get_or b (at + 10) 0 = omega arith in
        let e11 : low (v / 65536) ≡ get_or b (at + 11) 0 = omega (arith, again 10 1) in
        let e12 : low (v / 256) ≡ get_or b (at + 12) 0 = omega (arith, again 10 2) in
        let e13 : low v ≡ get_or b (at + 13) 0 = omega (arith, again 10 3) in
        let e14 : 0 ≡ get_or b (at + 14) 0 = omega arith in
        let e15 : 0 ≡ get_or b (at + 15) 0 = omega (arith, again 14 1) in
        let e : segment_bytes (segment_at b h i at) ≡ listed 0 b at 0 16 = rw add-zero cc in
        e ∙ sym (part_listed 0 b at 16 l)

    following_bytes_lem : at + 20 ≤ length b → four_bytes (following_at b at) ≡ part (at + 16) 4 b
    unfolding listed
    following_bytes_lem l =
        let e0 = low_byte _ (bs (at + 16)) in
        let e1 = low_byte _ (bs (at + 17)) ∙ sym (again 16 1) in
        let e2 = two_high _ _ (bs (at + 18)) (bs (at + 18 + 1)) ∙ sym (again 16 2) in
        let e3 = two_low _ _ (bs (at + 18)) (bs (at + 18 + 1)) ∙ again 18 1 ∙ sym (again 16 3) in
        let e : four_bytes (following_at b at) ≡ listed 0 b (at + 16) 0 4 = rw add-zero cc in
        e ∙ sym (part_listed 0 b (at + 16) 4 (omega (arith, l)))

    record_bytes_lem : at + record_size h ≤ length b → record_padding b at ≡ false → record_bytes h (segment_at b h i at) ≡ part at (record_size h) b
    unfolding record_bytes following_bytes following_of record_size
    record_bytes_lem = go (eqb h.version 1)
      where
        s : Segment
        s = segment_at b h i at

        go :
            (t : Bool) → at + cond t 16 20 ≤ length b → record_padding b at ≡ false
            → segment_bytes s ++ cond t [] (four_bytes (cond t (chain h.size i) (following_at b at))) ≡ part at (cond t 16 20) b
        go true l pad = append-nil (segment_bytes s) ∙ segment_bytes_lem l pad
        go false l pad =
            ap₂ (λ (x y : List ℕ). x ++ y) (segment_bytes_lem (omega (arith, l)) pad) (following_bytes_lem l ∙ ap (take 4) (sym (drop-drop 16 at b)))
            ∙ sym (take-add 16 4 (drop at b))

  -- ---- curves and records as parts of the file
  module _ (a : FileAccepted b) where
    curve_bytes_lem : (k : ℕ) → k < (head_of b).curves → parts (λ j. u32_bytes (entry_of (network_of b) k j)) 201 ≡ part (804 * k) 804 (drop 16 b)
    curve_bytes_lem k lk =
        parts_of (λ j. u32_bytes (entry_of (network_of b) k j)) 4 (drop (curve_start k) b) 201
        (λ j lj.
        ap u32_bytes (from_entry (head_of b) (entry_on b) (segment_on b) k j lk lj)
        ∙ u32_written b bs (curve_start k + 4 * j) (omega (arith, a.head.sized.long))
        ∙ ap (take 4) (sym (drop-drop (4 * j) (curve_start k) b)))
        ∙ ap (take 804) (sym (drop-drop (804 * k) 16 b))

    curves_bytes : parts (λ k. parts (λ j. u32_bytes (entry_of (network_of b) k j)) 201) (head_of b).curves ≡ part 16 (804 * (head_of b).curves) b
    curves_bytes = parts_of _ 804 (drop 16 b) (head_of b).curves curve_bytes_lem

    abbrev h : Head
    h = head_of b

    records_bytes : parts (λ i. record_bytes h (segment_of (network_of b) i)) h.size ≡ drop (16 + 804 * h.curves) b
    unfolding record_number record_rows
    records_bytes =
        parts_of (λ i. record_bytes h (segment_of (network_of b) i)) (record_size h) (drop (16 + 804 * h.curves) b) h.size
        (λ i lt.
        ap (record_bytes h) (from_segment h (entry_on b) (segment_on b) i lt)
        ∙ record_bytes_lem h i (record_start h i) (record_ends h b a.head.sized i lt)
        (or_right (segment_bad h i (segment_on b i)) _ (row_passed _ _ _ (a.records i lt)))
        ∙ ap (take (record_size h)) (sym (drop-drop (record_size h * i) (16 + 804 * h.curves) b)))
        ∙ take_all (record_size h * h.size) (drop (16 + 804 * h.curves) b) (simp length-drop (omega (arith, a.head.sized.long)))

  writes_back : file_number b ≡ 0 → file_of (network_of b) ≡ b
  unfolding file_of network_from
  writes_back z =
      let a = file-accepted b z in
      simp (head_bytes_lem a.head, curves_bytes a, records_bytes a) (three_parts b 16 (804 * (head_of b).curves))

pub round_trip : RoundTrip
round_trip = writes_back
