-- What acceptance says of a file, and which part of the file refuses it.
use Prim.Native.Nat.{ℕ, ◌+◌, ◌*◌, ◌≤◌, ◌<◌}
use mathlib.Core.Bool.{Bool, true, false, cond, ◌&&◌, ◌||◌, not}
use mathlib.Core.List.{List}
use mathlib.Core.Path.{◌≡◌, refl, sym, ap, ◌∙◌}
use native.Mathlib.Omega.{arith}
use native.Mathlib.Nat.{add-zero}
use lib.Dec.{ltb, eqb}
use lib.ListN.{length}
use borrow.Author.Tests.{ltb-false, eqb-true, eq-eqb, ne_eqb, not-false}
use Rattle.laws.specs.Lists.{part}
use Rattle.laws.specs.BigEndian.{byte_at, u16_at, u32_at}
use Rattle.laws.proofs.Lists.{part_fits, part_at}
use Rattle.laws.proofs.BigEndian.{part_u16, part_u32}
use Rattle.laws.proofs.Tests.{or_left, or_right}
use Rattle.laws.proofs.First.{row_passed, row_later, row_skipped, first_some, first_zero, first_zero_left, first_zero_right, first_of-zero, first_of_all}
use Rattle.format.specs.declared.Head.{Head}
use Rattle.format.specs.declared.Following.{Following}
use Rattle.format.specs.declared.Segment.{Segment}
use Rattle.format.specs.Network.{network_from, entry_of, segment_of, version_bad, head_bad, chain, same_following, segment_bad, off_chain, record_rows, origin_number, segment_number, rows_number}
use Rattle.format.proofs.Accepted.{network_number, RowsWithin, Sized}
use Rattle.format.specs.File.{has_mark, head_of, head_padding, head_number, curve_in, curves_number, record_size, record_start, following_at, following_of, segment_at, record_padding, record_number, records_number, origins_number, file_number, entry_on, segment_on, network_of}
use Rattle.format.proofs.Rows.{head_within, rows_within}
use Rattle.format.proofs.From.{from_number}

-- ---- the head

pub record HeadAccepted (b : List ℕ) : Type 0 where
  pub long : 16 ≤ length b
  pub marked : has_mark b ≡ true
  pub version : version_bad (head_of b) ≡ false
  pub fields : head_bad (head_of b) ≡ false
  pub padding : head_padding b ≡ false
  pub sized : Sized b (head_of b)

pub head-accepted : (b : List ℕ) → head_number b ≡ 0 → HeadAccepted b
unfolding head_number
head-accepted b e =
    let e2 = row_later _ _ _ e in
    let e3 = row_later _ _ _ e2 in
    let e4 = row_later _ _ _ e3 in
    let e5 = row_later _ _ _ e4 in
    let version = row_passed _ _ _ e3 in
    let fields = or_left _ (head_padding b) (row_passed _ _ _ e4) in
    record {
      long = ltb-false _ _ (row_passed _ _ _ e);
      marked = not-false _ (row_passed _ _ _ e2);
      version = version;
      fields = fields;
      padding = or_right (head_bad (head_of b)) _ (row_passed _ _ _ e4);
      sized = record { within = head_within (head_of b) version fields; long = eqb-true _ _ (not-false _ (row_passed _ _ _ e5)) };
    }

-- ---- a record's numbers, read in a part of the file

-- a segment whose record begins at place at, by the 16 bytes that both versions have, and f, what follows it
abbrev pub fields_at : List ℕ → ℕ → Following → Segment
fields_at b at f =
    let byte : ℕ → ℕ = λ k. byte_at b (at + k) in
    record { metres = u16_at b at; lanes = byte 2; curve = byte 3; critical = byte 4; jam = byte 5; origin = byte 6; exit = u16_at b (at + 8); most = u32_at b (at + 10); following = f }

module _ (b : List ℕ) (at w : ℕ) where
  module _ (long : 16 ≤ w) where
    field_part : (k : ℕ) → k < 16 → byte_at (part at w b) k ≡ byte_at b (at + k)
    field_part k l = part_at b at w k 0 (omega (arith, l, long))

    pub fields_part : (f : Following) → fields_at (part at w b) 0 f ≡ fields_at b at f
    fields_part f = λ j. record {
      metres = (part_u16 b at w 0 (omega (arith, long)) ∙ ap (u16_at b) (add-zero at)) j;
      lanes = field_part 2 (omega arith) j;
      curve = field_part 3 (omega arith) j;
      critical = field_part 4 (omega arith) j;
      jam = field_part 5 (omega arith) j;
      origin = field_part 6 (omega arith) j;
      exit = part_u16 b at w 8 (omega (arith, long)) j;
      most = part_u32 b at w 10 (omega (arith, long)) j;
      following = f;
    }

    pub padding_part : record_padding (part at w b) 0 ≡ record_padding b at
    padding_part = λ j. ltb 0 (field_part 7 (omega arith) j) || ltb 0 (part_u16 b at w 14 (omega (arith, long)) j)

  -- the four bytes of version 2
  pub said_part : 20 ≤ w → following_at (part at w b) 0 ≡ following_at b at
  said_part long = λ j. record {
    first = part_at b at w 16 0 (omega (arith, long)) j;
    second = part_at b at w 17 0 (omega (arith, long)) j;
    share = part_u16 b at w 18 (omega (arith, long)) j;
  }

-- ---- the bytes of a record: 16 in version 1, 20 in version 2

module _ (h : Head) where
  pub record_two : (h.version ≡ 1 → ⊥) → record_size h ≡ 20
  unfolding record_size
  record_two n = rw (ne_eqb h.version 1 n) refl

  pub record_low : 16 ≤ record_size h
  unfolding record_size
  record_low = go (eqb h.version 1)
    where
      go : (t : Bool) → 16 ≤ cond t 16 20
      go true = omega arith
      go false = omega arith

  pub record_high : record_size h ≤ 20
  unfolding record_size
  record_high = go (eqb h.version 1)
    where
      go : (t : Bool) → cond t 16 20 ≤ 20
      go true = omega arith
      go false = omega arith

  -- record i ends where the next begins, within the n records
  pub record_fits : (i n : ℕ) → i < n → record_size h * i + record_size h ≤ record_size h * n
  record_fits i n l = part_fits (record_size h) i n l

  pub record_ends : (b : List ℕ) → Sized b h → (i : ℕ) → i < h.size → record_start h i + record_size h ≤ length b
  record_ends b s i l = omega (arith, s.long, record_fits i h.size l)

  -- a record is read in the bytes that it fills
  module _ (b : List ℕ) (i at : ℕ) where
    abbrev own : List ℕ
    own = part at (record_size h) b

    following_part : following_of own h i 0 ≡ following_of b h i at
    unfolding following_of record_size
    following_part = go (eqb h.version 1)
      where
        go : (t : Bool) → cond t (chain h.size i) (following_at (part at (cond t 16 20) b) 0) ≡ cond t (chain h.size i) (following_at b at)
        go true = refl
        go false = said_part b at 20 (omega arith)

    pub segment_part_lem : segment_at b h i at ≡ segment_at own h i 0
    segment_part_lem = sym (ap (fields_at own 0) following_part ∙ fields_part b at (record_size h) record_low (following_of b h i at))

    -- what a version 1 file holds is the chain
    pub on_chain : off_chain h i (segment_at b h i at) ≡ false
    unfolding following_of
    on_chain = go (eqb h.version 1)
      where
        same : (f : Following) → same_following f f ≡ true
        same f = rw (eq-eqb f.first f.first refl, eq-eqb f.second f.second refl, eq-eqb f.share f.share refl) refl

        go : (t : Bool) → (t && not (same_following (cond t (chain h.size i) (following_at b at)) (chain h.size i))) ≡ false
        go true = ap not (same (chain h.size i))
        go false = refl

-- ---- the file: which part refuses it

module _ (b : List ℕ) where
  pub file-head : (head_number b ≡ 0 → ⊥) → file_number b ≡ head_number b
  unfolding file_number
  file-head n = first_some _ _ n

  pub file-curves : head_number b ≡ 0 → (curves_number b ≡ 0 → ⊥) → file_number b ≡ curves_number b
  unfolding file_number
  file-curves z n = first_zero _ _ z ∙ first_some _ _ n

  module _ (z : head_number b ≡ 0) (w : curves_number b ≡ 0) where
    pub file_records : (records_number b ≡ 0 → ⊥) → file_number b ≡ records_number b
    unfolding file_number
    file_records n = first_zero _ _ z ∙ first_zero _ _ w ∙ first_some _ _ n

    pub file_origins : records_number b ≡ 0 → file_number b ≡ origins_number b
    unfolding file_number
    file_origins r = first_zero _ _ z ∙ first_zero _ _ w ∙ first_zero _ _ r

-- what acceptance says of the whole file
pub record FileAccepted (b : List ℕ) : Type 0 where
  pub head : HeadAccepted b
  pub curves : (k : ℕ) → k < (head_of b).curves → curve_in b k ≡ 0
  pub records : (i : ℕ) → i < (head_of b).size → record_number b (head_of b) i ≡ 0
  pub origins : (i : ℕ) → i < (head_of b).size → origin_number (segment_on b) (head_of b).size i ≡ 0

pub file-accepted : (b : List ℕ) → file_number b ≡ 0 → FileAccepted b
unfolding file_number curves_number records_number origins_number
file-accepted b e =
    let later = first_zero_right _ _ e in
    let last = first_zero_right _ _ later in
    record {
      head = head-accepted b (first_zero_left _ _ e);
      curves = first_of-zero (curve_in b) _ (first_zero_left _ _ later);
      records = first_of-zero (record_number b (head_of b)) _ (first_zero_left _ _ last);
      origins = first_of-zero (origin_number (segment_on b) (head_of b).size) _ (first_zero_right _ _ last);
    }

-- ---- the network of an accepted file is within the rows

module _ (b : List ℕ) where
  segment_in_lem : FileAccepted b → (i : ℕ) → i < (head_of b).size → segment_number (head_of b) (entry_on b) (segment_on b) i ≡ 0
  unfolding segment_number record_number record_rows
  segment_in_lem a i l =
      let z = a.records i l in
      let at = record_start (head_of b) i in
      let seven : segment_bad (head_of b) i (segment_on b i) ≡ false = or_left _ (record_padding b at) (row_passed _ _ _ z) in
      row_skipped _ _ _ (λ j. seven j || on_chain (head_of b) b i at j) ∙ row_later _ _ _ z

  pub network-accepted : file_number b ≡ 0 → network_number (network_of b) ≡ 0
  unfolding rows_number
  network-accepted z =
      let a = file-accepted b z in
      from_number (head_of b) (entry_on b) (segment_on b)
      ∙ row_skipped _ _ _ a.head.version
      ∙ row_skipped _ _ _ a.head.fields
      ∙ first_zero _ _ (first_of_all (curve_in b) _ a.curves)
      ∙ first_zero _ _ (first_of_all _ _ (segment_in_lem a))
      ∙ first_of_all _ _ a.origins

  -- every bound that the crates above need
  pub network_within : file_number b ≡ 0 → RowsWithin (head_of b) (entry_of (network_of b)) (segment_of (network_of b))
  unfolding network_from
  network_within z = rows_within _ _ _ (network-accepted z)
