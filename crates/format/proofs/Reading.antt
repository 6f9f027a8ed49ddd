-- The network that the file of a network holds is that network, and the file is accepted: for every network that the rows accept.
use Prim.Native.Nat.{ℕ, ◌+◌, ◌*◌, ◌≤◌, ◌<◌}
use mathlib.Core.Path.{◌≡◌, refl, sym, ap, ◌∙◌}
use mathlib.Core.Bool.{Bool, true, false, cond, ◌||◌, not}
use mathlib.Core.List.{List, [], ◌++◌, append-nil}
use native.Mathlib.Omega.{arith}
use native.Mathlib.Nat.{add-zero}
use lib.Dec.{eqb, lit<}
use lib.ListN.{length, take, drop, length-append}
use lib.Seq.{drop-drop, drop_at}
use borrow.Author.Tests.{le-ltb, eq-eqb, eqb-true}
use Rattle.laws.specs.First.{first_of}
use Rattle.laws.specs.Lists.{part, parts}
use Rattle.laws.specs.BigEndian.{u32_at, u32_bytes}
use Rattle.laws.proofs.Tests.{or_left}
use Rattle.laws.proofs.First.{row_passed, row_skipped, first_zero, first_of_all}
use Rattle.laws.proofs.Lists.{parts_at, length-parts}
use Rattle.laws.proofs.BigEndian.{low_byte, two_back, four_back, length_u32, u32_back, part_u32}
use Rattle.format.specs.declared.Head.{Head}
use Rattle.format.specs.declared.Segment.{Segment}
use Rattle.format.specs.Network.{Network, network_from, entry_of, segment_of, version_bad, head_bad, chain, segment_bad, off_chain, record_rows, origin_number, segment_number}
use Rattle.format.proofs.Accepted.{network_number, Formed, SegmentWithin, FollowingWithin, RowsWithin}
use Rattle.format.specs.File.{head_of, has_mark, head_padding, file_size, head_number, curve_start, entry_at, record_size, record_start, following_at, following_of, segment_at, record_padding, entry_on, segment_on, curve_in, curves_number, record_number, records_number, origins_number, file_number, network_of}
use Rattle.format.specs.Written.{head_bytes, following_bytes, segment_bytes, record_bytes, file_of}
use Rattle.format.proofs.Rows.{rows_within, entry_high, version_passed, head_passed, curves_passed, segments_passed, origins_passed}
use Rattle.format.proofs.File.{padding_part, record_low, record_high, segment_part_lem}
use Rattle.format.proofs.Record.{four_bytes, length_long_part, record_is}
use Rattle.format.proofs.From.{from_held, curve_same, origin_same}

pub length-head_bytes : (h : Head) → length (head_bytes h) ≡ 16
unfolding head_bytes
length-head_bytes h = refl

pub length_record_bytes : (h : Head) (s : Segment) → length (record_bytes h s) ≡ record_size h
length_record_bytes h s = ap length (record_is h s) ∙ length_long_part (record_size h) s (record_high h)

-- ---- one record: a segment within rows 7 and 27 is read back from its own bytes; in version 1 the chain is not written

module _ (h : Head) (i : ℕ) (s : Segment) (w : SegmentWithin h i s) (c : h.curves ≤ 8) (n : h.size ≤ 40)
    (follow : FollowingWithin h.size i s.following) (chained : h.version ≡ 1 → s.following ≡ chain h.size i) where
  following_back : following_of (record_bytes h s) h i 0 ≡ s.following
  unfolding record_bytes segment_bytes following_bytes following_of
  following_back = go (eqb h.version 1) refl
    where
      go :
          (t : Bool) → eqb h.version 1 ≡ t
          → cond t (chain h.size i) (following_at (segment_bytes s ++ cond t [] (four_bytes s.following)) 0) ≡ s.following
      go true e = sym (chained (eqb-true _ _ e))
      go false e =
          let f = s.following in
          let first = low_byte f.first (omega (arith, follow.first_high)) in
          let second = low_byte f.second (omega (arith, follow.second_high)) in
          let share = two_back f.share (omega (arith, w.share_high)) in
          λ j. record { first = first j; second = second j; share = share j }

  record_back : segment_at (record_bytes h s) h i 0 ≡ s
  unfolding record_bytes segment_bytes
  record_back =
      let metres = two_back s.metres (omega (arith, w)) in
      let lanes = low_byte s.lanes (omega (arith, w)) in
      let curve = low_byte s.curve (omega (arith, w)) in
      let critical = low_byte s.critical (omega (arith, w)) in
      let jam = low_byte s.jam (omega (arith, w)) in
      let origin = low_byte s.origin (omega (arith, w)) in
      let exit = two_back s.exit (omega (arith, w)) in
      let most = four_back s.most (omega (arith, w)) in
      λ j. record {
        metres = metres j;
        lanes = lanes j;
        curve = curve j;
        critical = critical j;
        jam = jam j;
        origin = origin j;
        exit = exit j;
        most = most j;
        following = following_back j;
      }

-- ---- the whole file

padding_none : (h : Head) (s : Segment) → record_padding (record_bytes h s) 0 ≡ false
unfolding record_bytes segment_bytes
padding_none h s = refl

module _ (w : Network) (z : network_number w ≡ 0) where
  abbrev h : Head
  h = w.head

  abbrev curve_part : ℕ → List ℕ
  curve_part k = parts (λ j. u32_bytes (entry_of w k j)) 201

  abbrev segment_part : ℕ → List ℕ
  segment_part i = record_bytes h (segment_of w i)

  within : RowsWithin h (entry_of w) (segment_of w)
  within = rows_within h (entry_of w) (segment_of w) z

  head_back : head_of (file_of w) ≡ h
  unfolding file_of head_bytes
  head_back =
      let a = within.head in
      let version = two_back h.version (omega (arith, a)) in
      let step = low_byte h.step (omega (arith, a)) in
      let size = low_byte h.size (omega (arith, a)) in
      let curves = low_byte h.curves (omega (arith, a)) in
      let tau = low_byte h.tau (omega (arith, a)) in
      let nu = low_byte h.nu (omega (arith, a)) in
      let kappa = low_byte h.kappa (omega (arith, a)) in
      let delta = two_back h.delta (omega (arith, a)) in
      λ j. record { version = version j; step = step j; size = size j; curves = curves j; tau = tau j; nu = nu j; kappa = kappa j; delta = delta j }

  -- ---- where the parts stand
  length-curve : (k : ℕ) → length (curve_part k) ≡ 804
  length-curve k = length-parts 4 (λ j. u32_bytes (entry_of w k j)) 201 (λ j l. length_u32 _)

  after-head : drop 16 (file_of w) ≡ parts curve_part h.curves ++ parts segment_part h.size
  unfolding file_of
  after-head = drop_at (head_bytes h) _ 16 (length-head_bytes h)

  curve_at : (k : ℕ) → k < h.curves → part (curve_start k) 804 (file_of w) ≡ curve_part k
  curve_at k l =
      ap (take 804) (sym (drop-drop (804 * k) 16 (file_of w)) ∙ ap (drop (804 * k)) after-head)
      ∙ parts_at 804 curve_part h.curves k (parts segment_part h.size) (λ i m. length-curve i) l

  after-curves : drop (16 + 804 * h.curves) (file_of w) ≡ parts segment_part h.size
  after-curves =
      sym (drop-drop (804 * h.curves) 16 (file_of w))
      ∙ ap (drop (804 * h.curves)) after-head
      ∙ drop_at (parts curve_part h.curves) _ (804 * h.curves) (length-parts 804 curve_part h.curves (λ i m. length-curve i))

  abbrev r : ℕ
  r = record_size h

  record_at : (i : ℕ) → i < h.size → part (record_start h i) r (file_of w) ≡ segment_part i
  record_at i l =
      ap (take r) (sym (drop-drop (r * i) (16 + 804 * h.curves) (file_of w)) ∙ ap (drop (r * i)) (after-curves ∙ sym (append-nil (parts segment_part h.size))))
      ∙ parts_at r segment_part h.size i [] (λ k m. length_record_bytes h _) l

  -- ---- what is read there
  entry_is : (k j : ℕ) → k < h.curves → j < 201 → entry_on (file_of w) k j ≡ entry_of w k j
  entry_is k j lk lj =
      let four : part (4 * j) 4 (curve_part k) ≡ u32_bytes (entry_of w k j) =
      ap (λ (l : List ℕ). part (4 * j) 4 l) (sym (append-nil (curve_part k))) ∙ parts_at 4 (λ j. u32_bytes (entry_of w k j)) 201 j [] (λ i m. length_u32 _) lj in
      sym (part_u32 (file_of w) (curve_start k) 804 (4 * j) (omega arith))
      ∙ ap (λ (l : List ℕ). u32_at l (4 * j)) (curve_at k lk)
      ∙ sym (part_u32 (curve_part k) (4 * j) 4 0 (omega arith) ∙ ap (u32_at (curve_part k)) (add-zero (4 * j)))
      ∙ ap (λ (l : List ℕ). u32_at l 0) four
      ∙ u32_back (entry_of w k j) (omega (arith, entry_high (entry_of w k) (within.curve k lk) j (omega arith)))

  segment_is : (i : ℕ) → i < h.size → segment_at (file_of w) h i (record_start h i) ≡ segment_of w i
  segment_is i l =
      segment_part_lem h (file_of w) i (record_start h i)
      ∙ ap (λ (b : List ℕ). segment_at b h i 0) (record_at i l)
      ∙ record_back h i (segment_of w i) (within.each i l) within.head.curves_high within.head.size_high (within.onward i l) (within.chained i l)

  padding_is : (i : ℕ) → i < h.size → record_padding (file_of w) (record_start h i) ≡ false
  padding_is i l =
      sym (padding_part (file_of w) (record_start h i) r (record_low h)) ∙ ap (λ (b : List ℕ). record_padding b 0) (record_at i l) ∙ padding_none h (segment_of w i)

  segment_on_lem : (i : ℕ) → i < h.size → segment_on (file_of w) i ≡ segment_of w i
  segment_on_lem i l = ap (λ (g : Head). segment_at (file_of w) g i (record_start g i)) head_back ∙ segment_is i l

  pub read_back : Formed w → network_of (file_of w) ≡ w
  read_back f =
      ap (λ (g : Head). network_from g (entry_on (file_of w)) (segment_on (file_of w))) head_back
      ∙ from_held w f (entry_on (file_of w)) (segment_on (file_of w)) entry_is segment_on_lem

  -- ---- and the file is accepted
  file_size_lem : length (file_of w) ≡ file_size h
  unfolding file_of
  file_size_lem =
      simp (length-append, length-head_bytes)
      (omega (arith, length-parts 804 curve_part h.curves (λ i m. length-curve i), length-parts r segment_part h.size (λ k m. length_record_bytes h _)))

  -- what is the same in every head
  marked : not (has_mark (file_of w)) ≡ false
  unfolding file_of head_bytes
  marked = refl

  version : version_bad (head_of (file_of w)) ≡ false
  version = ap version_bad head_back ∙ version_passed h (entry_of w) (segment_of w) z

  padding : head_padding (file_of w) ≡ false
  unfolding file_of head_bytes
  padding = refl

  fields : (head_bad (head_of (file_of w)) || head_padding (file_of w)) ≡ false
  fields = λ j. (ap head_bad head_back ∙ head_passed h (entry_of w) (segment_of w) z) j || padding j

  head-number : head_number (file_of w) ≡ 0
  unfolding head_number
  head-number =
      let long : 16 ≤ length (file_of w) = omega (arith, file_size_lem) in
      row_skipped _ _ _ (le-ltb _ _ long)
      ∙ row_skipped _ _ _ marked
      ∙ row_skipped _ _ _ version
      ∙ row_skipped _ _ _ fields
      ∙ row_skipped _ _ _ (ap not (eq-eqb _ _ (file_size_lem ∙ ap file_size (sym head_back))))

  curve-number : (k : ℕ) → k < (head_of (file_of w)).curves → curve_in (file_of w) k ≡ 0
  curve-number k l =
      let m : k < h.curves = omega (arith, ap (λ (g : Head). g.curves) head_back, l) in
      curve_same (entry_on (file_of w) k) (entry_of w k) (λ j lj. entry_is k j m lj) ∙ curves_passed h (entry_of w) (segment_of w) z k m

  record_number_lem : (i : ℕ) → i < h.size → record_number (file_of w) h i ≡ 0
  unfolding record_number segment_number record_rows
  record_number_lem i l =
      let s = segment_of w i in
      let passed = segments_passed h (entry_of w) (segment_of w) z i l in
      let bad : (segment_bad h i s || off_chain h i s) ≡ false = row_passed _ _ _ passed in
      let seven : segment_bad h i s ≡ false = or_left _ (off_chain h i s) bad in
      let first = entry_is s.curve 0 (within.each i l).curve_high (lit< tt) in
      (λ j. record_rows (segment_bad h i (segment_is i l j) || padding_is i l j) h i (entry_at (file_of w) (curve_start (segment_is i l j).curve) 0) (segment_is i l j))
      ∙ (λ j. record_rows (seven j || false) h i (first j) s)
      ∙ sym (λ j. record_rows (bad j) h i (entry_of w s.curve 0) s)
      ∙ passed

  origin-number : (i : ℕ) → i < h.size → origin_number (segment_on (file_of w)) h.size i ≡ 0
  origin-number i l = origin_same h.size _ _ segment_on_lem i l ∙ origins_passed h (entry_of w) (segment_of w) z i l

  pub file-accepted_of : file_number (file_of w) ≡ 0
  unfolding file_number curves_number records_number origins_number
  file-accepted_of =
      first_zero _ _ head-number
      ∙ first_zero _ _ (first_of_all (curve_in (file_of w)) _ curve-number)
      ∙ first_zero _ _ (ap (λ (g : Head). first_of (record_number (file_of w) g) g.size) head_back ∙ first_of_all (record_number (file_of w) h) h.size record_number_lem)
      ∙ ap (λ (g : Head). first_of (origin_number (segment_on (file_of w)) g.size) g.size) head_back
      ∙ first_of_all (origin_number (segment_on (file_of w)) h.size) h.size origin-number
