-- Laws of a list that is written over another.
use Prim.Native.Nat.{◌≤◌}
use native.Mathlib.Nat.{le_of_eq}
use mathlib.Core.Path.{◌≡◌, sym, ◌∙◌}
use mathlib.Core.List.{List, ◌++◌, append-nil}
use lib.ListN.{length, take, drop, drop_of_length-le}
use lib.Seq.{take_all}
use Rattle.arrays.specs.Over.{over}

module _ {A : Type 0} (src out : List A) where
  pub over_fits : length src ≤ length out → over src out ≡ src ++ drop (length src) out
  unfolding over
  over_fits h = rw (take_all (length out) src h)

  pub over_all : length out ≤ length src → over src out ≡ take (length out) src
  unfolding over
  over_all h = rw (drop_of_length-le out h) (append-nil (take (length out) src))

  pub over_same : length src ≡ length out → over src out ≡ src
  over_same h = over_all (le_of_eq (sym h)) ∙ take_all (length out) src (le_of_eq h)
