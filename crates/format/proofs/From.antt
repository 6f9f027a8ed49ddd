-- The network that is given by its head, entries and segments: what it holds, and that the rows look at nothing else.
use Prim.Native.Nat.{ℕ, ◌+◌, ◌<◌}
use mathlib.Core.Bool.{Bool, true, false, ◌&&◌, ◌||◌, not}
use mathlib.Core.List.{List, []}
use mathlib.Core.Path.{◌≡◌, refl, ap, ◌∙◌}
use native.Mathlib.Omega.{arith}
use lib.Dec.{ltb, eqb, lit<}
use lib.ListN.{length, get_or}
use Rattle.laws.specs.First.{outside, row, first}
use Rattle.laws.specs.Lists.{table}
use Rattle.laws.proofs.Tests.{or_left}
use Rattle.laws.proofs.First.{first_of_ext}
use Rattle.laws.proofs.SomeBelow.{some_ext}
use Rattle.laws.proofs.Lists.{length-table, get_or-table, table_of}
use Rattle.format.specs.declared.Head.{Head}
use Rattle.format.specs.declared.Segment.{Segment}
use Rattle.format.specs.Network.{Network, network_from, no_segment, entry_of, segment_of, version_bad, head_bad, rising, curve_number, segment_bad, off_chain, record_rows, goes_to, has_before, origin_number, segment_number, rows_number}
use Rattle.format.proofs.Accepted.{network_number, Formed}
use Rattle.format.proofs.Rows.{segment_within}

-- ---- the rows of two networks with one head that agree on what the head says is there

pub curve_same : (e f : ℕ → ℕ) → ((j : ℕ) → j < 201 → e j ≡ f j) → curve_number e ≡ curve_number f
unfolding curve_number rising
curve_same e f same =
    λ i. row (outside 1000 (same 0 (lit< tt) i) 200000) 6
    (first_of_ext (rising e) (rising f) 200 (λ j l. λ k. row (ltb (same j (omega arith) k) (same (j + 1) (omega arith) k)) 6 0) i)

-- row 28 looks at the n segments alone
module _ (n : ℕ) (s t : ℕ → Segment) (segments : (i : ℕ) → i < n → s i ≡ t i) where
  pub before_same : (i : ℕ) → has_before s n i ≡ has_before t n i
  unfolding has_before
  before_same i = some_ext _ _ n (λ k l. ap (λ (x : Segment). goes_to i x.following) (segments k l))

  pub origin_same : (i : ℕ) → i < n → origin_number s n i ≡ origin_number t n i
  unfolding origin_number
  origin_same i l = λ j. row (eqb (segments i l j).origin 0 && not (before_same i j)) 28 0

module _ (h : Head) (e f : ℕ → ℕ → ℕ) (s t : ℕ → Segment)
    (entries : (k j : ℕ) → k < h.curves → j < 201 → e k j ≡ f k j) (segments : (i : ℕ) → i < h.size → s i ≡ t i) where
  -- a segment whose curve is not there is refused by row 7
  speed_same : (i : ℕ) (x : Segment) (bad : Bool) → (segment_bad h i x || off_chain h i x) ≡ bad → record_rows bad h i (e x.curve 0) x ≡ record_rows bad h i (f x.curve 0) x
  unfolding record_rows row
  speed_same i x true b = refl
  speed_same i x false b = ap (λ (F : ℕ). record_rows false h i F x) (entries x.curve 0 (segment_within h i x (or_left _ _ b)).curve_high (lit< tt))

  segment_same : (i : ℕ) → i < h.size → segment_number h e s i ≡ segment_number h f t i
  unfolding segment_number
  segment_same i l =
      speed_same i (s i) (segment_bad h i (s i) || off_chain h i (s i)) refl
      ∙ ap (λ (x : Segment). record_rows (segment_bad h i x || off_chain h i x) h i (f x.curve 0) x) (segments i l)

  pub rows_same : rows_number h e s ≡ rows_number h f t
  unfolding rows_number
  rows_same =
      λ i. row (version_bad h) 3
      (row (head_bad h) 4
      (first (first_of_ext (λ k. curve_number (e k)) (λ k. curve_number (f k)) h.curves (λ k l. curve_same (e k) (f k) (λ j m. entries k j l m)) i)
      (first (first_of_ext (segment_number h e s) (segment_number h f t) h.size segment_same i)
      (first_of_ext (origin_number s h.size) (origin_number t h.size) h.size (origin_same h.size s t segments) i))))

-- ---- what the network holds

module _ (h : Head) (entry : ℕ → ℕ → ℕ) (segment : ℕ → Segment) where
  from_curve : (k : ℕ) → k < h.curves → get_or (network_from h entry segment).curves k [] ≡ table (entry k) 201
  unfolding network_from
  from_curve k l = get_or-table (λ k. table (entry k) 201) h.curves k [] l

  pub from_entry : (k j : ℕ) → k < h.curves → j < 201 → entry_of (network_from h entry segment) k j ≡ entry k j
  from_entry k j lk lj = ap (λ (l : List ℕ). get_or l j 0) (from_curve k lk) ∙ get_or-table (entry k) 201 j 0 lj

  pub from_segment : (i : ℕ) → i < h.size → segment_of (network_from h entry segment) i ≡ segment i
  unfolding network_from
  from_segment i l = get_or-table segment h.size i no_segment l

  pub from_formed : Formed (network_from h entry segment)
  unfolding network_from
  from_formed =
      record {
        curves = length-table (λ k. table (entry k) 201) h.curves;
        entries = λ k l. ap length (from_curve k l) ∙ length-table (entry k) 201;
        segments = length-table segment h.size;
      }

  pub from_number : network_number (network_from h entry segment) ≡ rows_number h entry segment
  unfolding network_from
  from_number = rows_same h (entry_of (network_from h entry segment)) entry (segment_of (network_from h entry segment)) segment from_entry from_segment

-- a network is given by what it holds
pub from_held :
    (w : Network) → Formed w → (entry : ℕ → ℕ → ℕ) (segment : ℕ → Segment)
    → ((k j : ℕ) → k < w.head.curves → j < 201 → entry k j ≡ entry_of w k j) → ((i : ℕ) → i < w.head.size → segment i ≡ segment_of w i)
    → network_from w.head entry segment ≡ w
unfolding network_from
from_held w f entry segment entries segments =
    λ i. record { head = w.head; curves = curves_are i; segments = segments_are i }
  where
    curves_are : table (λ k. table (entry k) 201) w.head.curves ≡ w.curves
    curves_are =
        table_of (λ k. table (entry k) 201) w.curves w.head.curves [] f.curves
        (λ k l. table_of (entry k) (get_or w.curves k []) 201 0 (f.entries k l) (λ j m. entries k j l m))

    segments_are : table segment w.head.size ≡ w.segments
    segments_are = table_of segment w.segments w.head.size no_segment f.segments segments
