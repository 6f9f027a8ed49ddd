-- What the functions' proofs take from here: rows asked one after the other, and what is known where one did not refuse.
use Prim.Native.Nat.{ℕ, ◌+◌, ◌*◌, ◌≤◌, ◌<◌}
use mathlib.Core.Path.{◌≡◌, refl}
use mathlib.Core.Bool.{Bool, true, false, not}
use mathlib.Core.List.{List}
use native.Mathlib.Omega.{arith}
use lib.Dec.{ltb, eqb}
use lib.ListN.{length, length-take, get_or}
use lib.Ieee.{Float}
use borrow.Author.Tests.{ltb-false, eqb-true, not-false}
use Rattle.laws.specs.First.{row, outside}
use Rattle.laws.proofs.First.{first_zero, row_applied, row_skips}
use Rattle.laws.proofs.Refused.{number_above, first_above}
use Rattle.laws.proofs.Tests.{inside_low, inside_high}
use Rattle.format.specs.Words.{head_in}
use Rattle.format.proofs.Accepted.{SegmentsKept}
use Rattle.format.proofs.Keeping.{segments_kept}
use Rattle.metanet.specs.Words.{net_of}
use Rattle.book.specs.Arrangement.{size_at}
use Rattle.book.specs.Sound.{sound}
use Rattle.book.proofs.Judging.{size_high}
use Rattle.book.proofs.Network.{size_word}
use Rattle.book.proofs.Sounds.{laid}
use Rattle.refusal.proofs.Table.{table_rows}

-- ---- a row and the later ones, where the code asked the row by itself
pub ruleset in_order = (number_above, row_applied, row_skips, first_above, first_zero)

-- ---- what is known where a row did not refuse. Each conclusion begins with the term at which `grind` is to use the lemma

refused_none : (t : Bool) (k : ℕ) → 0 < k → row t k 0 ≡ 0 → t ≡ false
unfolding row
refused_none true k l e = absurd (omega (arith, l, e))
refused_none false k l e = refl

pub row_inside : (lo x hi k : ℕ) → 0 < k → row (outside lo x hi) k 0 ≡ 0 → (row (outside lo x hi) k 0 ≡ 0) × (lo ≤ x) × (x ≤ hi)
row_inside lo x hi k l e = let f = refused_none _ k l e in (e, inside_low lo x hi f, inside_high lo x hi f)

pub row_most : (hi x k : ℕ) → 0 < k → row (ltb hi x) k 0 ≡ 0 → (row (ltb hi x) k 0 ≡ 0) × (x ≤ hi)
row_most hi x k l e = (e, ltb-false hi x (refused_none _ k l e))

pub row_same : (a b k : ℕ) → 0 < k → row (not (eqb a b)) k 0 ≡ 0 → (row (not (eqb a b)) k 0 ≡ 0) × (a ≡ b)
row_same a b k l e = (e, eqb-true a b (not-false _ (refused_none _ k l e)))

module _ (words : List ℕ) (speeds : List Float) where
  -- 12
  module _ (e : row (not (sound words speeds)) 12 0 ≡ 0) where
    fine : sound words speeds ≡ true
    fine = not-false _ (refused_none _ 12 (omega arith) e)

    -- n is read where the code reads it
    pub row_long : (row (not (sound words speeds)) 12 0 ≡ 0)
        × (2576 + 16 * get_or words 1 0 < length words) × (get_or words 1 0 ≤ 40) × (size_at words ≡ get_or words 1 0)
    row_long =
        let l = laid words speeds fine in
        let size = size_word words in
        (e, omega (arith, l.room, size), omega (arith, size_high l, size), size)

    pub row_net : SegmentsKept (net_of words) (head_in (net_of words))
    row_net = let l = laid words speeds fine in segments_kept _ (omega (arith, length-take {A = ℕ} 2560 words, l.room)) l.net

-- a call's rows, asked in their order
pub ruleset asked = (in_order, row_inside, row_most, row_same, row_long, row_net, table_rows)
