-- A curve that is asked for.
use Prim.Native.Nat.{ℕ, ◌+◌, ◌*◌, ◌≤◌, ◌<◌}
use mathlib.Core.List.{List, []}
use mathlib.Core.Path.{◌≡◌}
use native.Mathlib.Omega.{arith}
use lib.ListN.{length}
use borrow.Author.Tests.{leb-false}
use Rattle.laws.specs.Lists.{part}
use Rattle.laws.specs.BigEndian.{u32_at}
use Rattle.laws.proofs.First.{row_passed, first_zero_left, first_zero_right, when_accepted, when_refused}
use Rattle.laws.proofs.Lists.{length_part}
use Rattle.laws.proofs.BigEndian.{part_u32}
use Rattle.format.specs.File.{head_of, file_number, curve_start, entry_at}
use Rattle.format.specs.Curve.{curve_call_number, curve_bytes}
use Rattle.format.proofs.File.{FileAccepted, file-accepted}

module _ (b : List ℕ) (k : ℕ) where
  pub curve_call_accepted : curve_call_number b k ≡ 0 → FileAccepted b × (k < (head_of b).curves)
  unfolding curve_call_number
  curve_call_accepted e =
      (file-accepted b (first_zero_left _ _ e), leb-false _ _ (row_passed _ _ _ (first_zero_right (file_number b) _ e)))

  -- the curve lies within the file
  pub curve_ends : curve_call_number b k ≡ 0 → curve_start k + 804 ≤ length b
  curve_ends e = let a = curve_call_accepted e in omega (arith, a.0.head.sized.long, a.1)

  pub curve_below : curve_call_number b k ≡ 0 → k < 8
  curve_below e = let a = curve_call_accepted e in omega (arith, a.0.head.sized.within.curves_high, a.1)

  pub curve_bytes_none : (curve_call_number b k ≡ 0 → ⊥) → curve_bytes b k ≡ []
  unfolding curve_bytes
  curve_bytes_none n = when_refused _ _ _ n

  pub curve_bytes_some : curve_call_number b k ≡ 0 → curve_bytes b k ≡ part (curve_start k) 804 b
  unfolding curve_bytes
  curve_bytes_some z = when_accepted _ _ _ z

-- what is shown: 804 bytes, with entry j at 4 * j
module _ (b : List ℕ) (k : ℕ) (given : curve_call_number b k ≡ 0) where
  pub curve-length : length (curve_bytes b k) ≡ 804
  curve-length = rw (curve_bytes_some b k given) (length_part b (curve_start k) 804 (curve_ends b k given))

  pub curve-entry : (j : ℕ) → j < 201 → u32_at (curve_bytes b k) (4 * j) ≡ entry_at b (curve_start k) j
  curve-entry j l = rw (curve_bytes_some b k given) (part_u32 b (curve_start k) 804 (4 * j) (omega arith))
