-- One segment more of the table of longest ways out, filled from the end of the road.
use Prim.Native.Nat.{ℕ, zero, suc, ◌+◌, ◌≤◌, ◌<◌, max}
use native.Mathlib.Nat.{eq-or-lt_of_le}
use native.Mathlib.Omega.{arith}
use mathlib.Core.Path.{◌≡◌, refl, sym, ap, subst, ◌∙◌}
use mathlib.Core.Logic.{⊎_elim}
use mathlib.Core.List.{List}
use lib.ListN.{length, get_or, set}
use lib.Seq.{get_or-set_same, get_or-set_other}
use Rattle.laws.specs.Lists.{table}
use Rattle.laws.proofs.Lists.{table_of}
use Rattle.format.specs.declared.Following.{Following}
use Rattle.format.specs.Words.{head_in, segment_in}
use Rattle.format.proofs.Accepted.{FollowingWithin, SegmentsKept}
use Rattle.emptying.specs.LongestWay.{longest_way}
use Rattle.emptying.proofs.WayLaws.{way, way_on, way_high}
use Rattle.ways.specs.Filled.{way_in, FilledFrom}

-- ---- segment i, where those after it are filled; f is what follows it

module _ {kept : List ℕ} {n : ℕ} (ok : SegmentsKept kept (head_in kept)) (size : n ≡ (head_in kept).size) where
  onward : (j : ℕ) → j < n → FollowingWithin n j (segment_in kept j).following
  onward = subst (λ (m : ℕ). (j : ℕ) → j < m → FollowingWithin m j (segment_in kept j).following) (sym size) ok.onward

module _ {kept : List ℕ} {n i : ℕ} {ys : List ℕ} {f : Following} (ok : SegmentsKept kept (head_in kept)) (size : n ≡ (head_in kept).size)
    (l : i < n) (got : FilledFrom kept n (i + 1) ys) (is : f ≡ (segment_in kept i).following) where
  follows : FollowingWithin n i f
  follows = rw is (onward ok size i l)

  read : (k : ℕ) → k ≤ n → (0 < k → i + 1 < k) → way_in ys k ≡ way (segment_in kept) n k
  unfolding way_in
  read zero h later = refl
  read (suc j) h later = got.each j (omega (arith, later (omega arith))) h

  module _ {r : ℕ} (greater : r ≡ max (way_in ys f.first) (way_in ys f.second)) where
    value : 1 + r ≡ longest_way (segment_in kept) n i
    value =
        let both : r ≡ max (way (segment_in kept) n f.first) (way (segment_in kept) n f.second) =
        greater ∙ (λ j. max (read f.first follows.first_high follows.first_higher j) (read f.second follows.second_high follows.second_higher j)) in
        let on = ap (λ (g : Following). max (way (segment_in kept) n g.first) (way (segment_in kept) n g.second)) is in
        omega (arith, both, on, way_on (segment_in kept) n (onward ok size) i l)

    pub value_high : 1 + r ≤ 40
    value_high = omega (arith, value, way_high (segment_in kept) n i, ok.kept.within.size_high, size)

    pub filled : length ys ≡ n → FilledFrom kept n i (set ys i (1 + r))
    filled long = record {
      each = λ j from to. ⊎_elim
          (λ (e : i ≡ j). ap (λ (k : ℕ). get_or (set ys i (1 + r)) k 0) (sym e) ∙ get_or-set_same ys i (1 + r) 0 (omega (arith, long)) ∙ value ∙ ap (longest_way (segment_in kept) n) e)
          (λ (later : i < j). get_or-set_other ys i j (1 + r) 0 (λ e. omega (arith, e, later)) ∙ got.each j (omega (arith, later)) to)
          (eq-or-lt_of_le from);
    }

-- what a proof of the recursion needs
pub ruleset one_more = (value_high, filled)

-- ---- the whole table
pub all_filled : {kept : List ℕ} {n : ℕ} {ys : List ℕ} → n ≡ (head_in kept).size → length ys ≡ n → FilledFrom kept n 0 ys
    → ys ≡ table (longest_way (segment_in kept) (head_in kept).size) (head_in kept).size
all_filled {kept} {n} {ys} size long got =
    sym (table_of (longest_way (segment_in kept) n) ys n 0 long (λ i l. sym (got.each i (omega arith) l))) ∙ ap (λ (m : ℕ). table (longest_way (segment_in kept) m) m) size
