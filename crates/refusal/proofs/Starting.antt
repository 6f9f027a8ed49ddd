-- Start: its rows, and what acceptance says.
use Prim.Native.Nat.{ℕ, zero, suc, ◌≤◌, ◌<◌}
use mathlib.Core.Path.{◌≡◌, refl, sym, ap, ◌∙◌, subst}
use mathlib.Core.Bool.{Bool, false, ◌||◌, not}
use mathlib.Core.List.{List}
use native.Mathlib.Omega.{arith}
use lib.Dec.{ltb, eqb, lit<}
use lib.ListN.{length, get_or}
use lib.Ieee.{Float}
use borrow.Author.Tests.{ltb-false}
use Rattle.laws.specs.First.{any_of, or_from, row, first, first_of}
use Rattle.laws.proofs.First.{row_skipped, row_passed, row_later, first_zero_left, first_zero_right, first_of_ext}
use Rattle.laws.proofs.Tests.{or_left, or_right}
use Rattle.format.specs.declared.Segment.{Segment}
use Rattle.format.specs.Network.{network_from, entry_of, segment_of}
use Rattle.format.specs.File.{head_of, segment_on, entry_on, network_of, file_number}
use Rattle.format.proofs.Accepted.{SegmentWithin}
use Rattle.format.proofs.From.{from_segment, from_entry}
use Rattle.format.proofs.File.{network_within}
use Rattle.book.specs.Arrangement.{words_for, speeds_for}
use Rattle.book.specs.Calls.{start}
use Rattle.metanet.specs.Start.{start_segment_number, start_number}
use Rattle.book.specs.Refusal.{refusal}
use Rattle.book.specs.Perform.{lent, refusal_at}
use Rattle.laws.proofs.Refused.{row_loop}
use Rattle.refusal.specs.Ready.{start_number_on, Listed}
use Rattle.refusal.proofs.Rows.{in_order}

-- the lists are not all as long as the network
abbrev pub uneven : List ℕ → List ℕ → List ℕ → List ℕ → Bool
uneven b mvs speeds queues =
    let n = (head_of b).size in not (eqb (length mvs) n) || not (eqb (length speeds) n) || not (eqb (length queues) n)

module _ (b : List ℕ) (z : file_number b ≡ 0) where
  pub same_segment : (i : ℕ) → i < (head_of b).size → segment_of (network_of b) i ≡ segment_on b i
  same_segment i l = from_segment (head_of b) (entry_on b) (segment_on b) i l

  -- a segment of an accepted file
  pub segment_on_lem : (i : ℕ) → i < (head_of b).size → SegmentWithin (head_of b) i (segment_on b i)
  segment_on_lem i l = subst (λ (s : Segment). SegmentWithin (head_of b) i s) (same_segment i l) ((network_within b z).each i l)

  pub size_high : (head_of b).size ≤ 40
  size_high = (network_within b z).head.size_high

  module _ (mvs speeds queues : List ℕ) where
    same_number : (i : ℕ) → i < (head_of b).size
        → start_segment_number (segment_of (network_of b) i) (entry_of (network_of b) (segment_of (network_of b) i).curve 0) (get_or mvs i 0) (get_or speeds i 0) (get_or queues i 0)
        ≡ start_number_on b mvs speeds queues i
    same_number i l =
        ap (λ (s : Segment). start_segment_number s (entry_of (network_of b) s.curve 0) (get_or mvs i 0) (get_or speeds i 0) (get_or queues i 0)) (same_segment i l)
        ∙ ap (λ (F : ℕ). start_segment_number (segment_on b i) F (get_or mvs i 0) (get_or speeds i 0) (get_or queues i 0))
        (from_entry (head_of b) (entry_on b) (segment_on b) (segment_on b i).curve 0 (segment_on_lem i l).curve_high (lit< tt))

    -- lists of the network's length
    lists_even : uneven b mvs speeds queues ≡ false → Listed b mvs speeds queues
    lists_even e = record { file = z; mvs_many = grind arith; speeds_many = grind arith; queues_many = grind arith }

    pub listed_row : row (uneven b mvs speeds queues) 13 0 ≡ 0 → (row (uneven b mvs speeds queues) 13 0 ≡ 0) × Listed b mvs speeds queues
    listed_row e = (e, lists_even (row_passed _ _ _ e))

    lists_are : start_number (network_of b) mvs speeds queues ≡ row (uneven b mvs speeds queues) 13 (first_of (start_number_on b mvs speeds queues) (head_of b).size)
    unfolding start_number network_from any_of or_from
    lists_are = ap (row (uneven b mvs speeds queues) 13) (first_of_ext _ (start_number_on b mvs speeds queues) (head_of b).size same_number)

-- ---- the call
module _ (words : List ℕ) (lentSpeeds : List Float) (b mvs speeds queues : List ℕ) where
  abbrev number : ℕ
  number = refusal_at (start b mvs speeds queues) (lent words lentSpeeds)

  abbrev short : Bool
  short = ltb (length words) (words_for (head_of b).size) || ltb (length lentSpeeds) (speeds_for (head_of b).size)

  number_is : number ≡ first (file_number b) (row short 11 (start_number (network_of b) mvs speeds queues))
  unfolding refusal_at refusal network_from
  number_is = row_skipped _ _ _ refl

  -- the file's rows, then 11, 13 and 14
  pub start_rows : number ≡ first (file_number b) (row short 11 (row (uneven b mvs speeds queues) 13 (first_of (start_number_on b mvs speeds queues) (head_of b).size)))
  unfolding first
  start_rows = number_is ∙ go (file_number b) refl
    where
      go : (m : ℕ) → file_number b ≡ m
          → first m (row short 11 (start_number (network_of b) mvs speeds queues))
          ≡ first m (row short 11 (row (uneven b mvs speeds queues) 13 (first_of (start_number_on b mvs speeds queues) (head_of b).size)))
      go zero z = ap (row short 11) (lists_are b z mvs speeds queues)
      go (suc m) z = refl

  -- ---- what acceptance says
  module _ (q : number ≡ 0) where
    pub start-file : file_number b ≡ 0
    start-file = first_zero_left _ _ (sym number_is ∙ q)

    later : row short 11 (row (uneven b mvs speeds queues) 13 (first_of (start_number_on b mvs speeds queues) (head_of b).size)) ≡ 0
    later = first_zero_right (file_number b) _ (sym start_rows ∙ q)

    long : short ≡ false
    long = row_passed _ _ _ later

    pub start-room : words_for (head_of b).size ≤ length words
    start-room = ltb-false _ _ (or_left (ltb (length words) (words_for (head_of b).size)) _ long)

    pub start-speeds-room : speeds_for (head_of b).size ≤ length lentSpeeds
    start-speeds-room = ltb-false _ _ (or_right (ltb (length words) (words_for (head_of b).size)) _ long)

    pub start_listed : Listed b mvs speeds queues
    start_listed = lists_even b start-file mvs speeds queues (row_passed _ _ _ (row_later _ _ _ later))

-- the call's rows, asked in their order
pub ruleset start_check = (in_order, row_loop, size_high, start_rows, listed_row)
