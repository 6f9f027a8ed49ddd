use Rattle.std.proofs.Common.{◌≡◌, ℕ, ◌+◌, ◌*◌, ◌/◌, ◌<◌, ◌≤◌, Bool, true, false, leb, sym, refl, mul-le-mul_left, div-mul-le_self, arith, leb-false, leb-true}
use native.Mathlib.Nat.{lt-div-mul-add, div-eq_of_lt-le}
use mir.Val.{bool_byte}
use Rattle.segment.proofs.flow.portion.Goals as goal

abbrev scaled_of : ℕ → ℕ → ℕ
scaled_of most range = most * 4194304 / range

abbrev low_of : ℕ → ℕ → ℕ → ℕ
low_of most room range = scaled_of most range * room / 4194304

-- Both quotients are rounded down, so low is not above the result. Each mv of room loses less than one part of 2²² by the first, and there
-- are no more mv than parts: that is less than one, and the second loses less than one.
module _ (most room range : ℕ) (within : room ≤ 4194304) (positive : 0 < range) where
  not_above : low_of most room range * range ≤ most * room
  not_above =
      omega (
        arith,
        mul-le-mul_left room (div-mul-le_self (most * 4194304) range),
        mul-le-mul_left range (div-mul-le_self (scaled_of most range * room) 4194304),
      )

  two_above : most * room < (low_of most room range + 2) * range
  two_above =
      let first : most * 4194304 ≤ scaled_of most range * range + range = omega (arith, lt-div-mul-add {a = most * 4194304} positive) in
      let second : scaled_of most range * room + 1 ≤ low_of most room range * 4194304 + 4194304 = omega arith in
      omega (arith, mul-le-mul_left room first, mul-le-mul_left range second, mul-le-mul_left range within)

  exact : low_of most room range + bool_byte (leb ((low_of most room range + 1) * range) (most * room)) ≡ most * room / range
  exact = go (leb ((low_of most room range + 1) * range) (most * room)) refl
    where
      go : (t : Bool) → leb ((low_of most room range + 1) * range) (most * room) ≡ t → low_of most room range + bool_byte t ≡ most * room / range
      go true e = sym (div-eq_of_lt-le range (leb-true _ _ e) (omega (arith, two_above)))
      go false e =
          sym
          (div-eq_of_lt-le range (omega (arith, not_above)) (omega (arith, leb-false ((low_of most room range + 1) * range) (most * room) e)))

pub returns : goal.returns
returns c = let a = c.args in rw c.from.ensures (exact a.most a.room a.range (omega arith) c.requires.2)
