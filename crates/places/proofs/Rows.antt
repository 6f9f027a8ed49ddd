-- Row 6 of one entry and row 28 of one segment, as the code tests them.
use Prim.Native.Nat.{ℕ, zero, suc, ◌-◌}
use mathlib.Core.Bool.{Bool, true, false, ◌&&◌, not}
use mathlib.Core.Path.{◌≡◌, refl}
use native.Mathlib.Nat.{suc-ne-zero}
use native.Mathlib.Numerals.{unary_clauses}
use lib.Dec.{ltb, eqb}
use Rattle.laws.specs.First.{outside, row}
use Rattle.format.specs.declared.Segment.{Segment}
use Rattle.format.specs.Network.{has_before, origin_number}
use Rattle.format.specs.Place.{entry_bad}

pub entry_first : (e : ℕ → ℕ) (j : ℕ) → j ≡ 0 → entry_bad e j ≡ outside 1000 (e j) 200000
unfolding entry_bad
entry_first e zero z = refl
entry_first e (suc j) z = absurd (suc-ne-zero j z)

pub entry_later : (e : ℕ → ℕ) (j : ℕ) → (j ≡ 0 → ⊥) → entry_bad e j ≡ ltb (e (j - 1)) (e j)
unfolding entry_bad
entry_later e zero n = absurd (n refl)
entry_later e (suc j) n = simp unary_clauses refl

pub origin_refused : (segment : ℕ → Segment) (n i : ℕ) → ltb 0 (origin_number segment n i) ≡ (eqb (segment i).origin 0 && not (has_before segment n i))
unfolding origin_number row
origin_refused segment n i = go (eqb (segment i).origin 0 && not (has_before segment n i))
  where
    go : (t : Bool) → ltb 0 (row t 28 0) ≡ t
    go true = refl
    go false = refl
